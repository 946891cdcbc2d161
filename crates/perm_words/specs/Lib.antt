pub mod ClassText
pub mod ObjectText
pub mod Standing
