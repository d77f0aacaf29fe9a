pub mod RndfTexts
pub mod MdfTexts
pub mod Lined
pub mod ItemOf
pub mod OfLine
pub mod RndfTold
pub mod MaximumWords
pub mod MdfTold
