pub mod Mixtures
pub mod MixedFlows
pub mod MixedOutflows
pub mod MixedBlocks
pub mod NoTable
