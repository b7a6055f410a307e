pub use Rattle.ir_uses.specs.Answers
pub mod Parts
pub mod Room
pub mod Items
