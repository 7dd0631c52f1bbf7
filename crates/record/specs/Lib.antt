pub mod HouseRecord
pub mod Parts
