-- What the texts of the worked pairs spell.
pub mod PairTexts
-- Same writing, same yard.
pub mod Theorems
-- What is written of the worked pairs.
pub mod Pairs
