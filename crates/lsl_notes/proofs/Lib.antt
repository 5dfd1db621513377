pub mod CutBytes
pub mod CutLaws
pub mod Cuts
pub mod Feeds
pub mod Fronts
pub mod Keys
pub mod LinePlaces
pub mod Spelled
