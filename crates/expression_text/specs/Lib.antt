pub mod ExpressionText
