pub mod Floats
pub mod Rooms
pub mod Wholes
pub mod Sizes
pub mod Equations
pub mod Bands
pub mod Made
pub mod Sheets
