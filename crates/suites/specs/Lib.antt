pub mod Suites
pub mod Numbers
