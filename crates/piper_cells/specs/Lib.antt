pub mod Space
pub mod TokenCell
