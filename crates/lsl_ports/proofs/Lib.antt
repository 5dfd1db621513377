pub mod FileHeads
pub mod Growth
pub mod LinkStates
