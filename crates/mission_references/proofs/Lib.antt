-- Over filled tables the answers are those of `fill`.
pub mod Laws
