pub mod Tweakey
