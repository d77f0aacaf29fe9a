-- Laws of judging a line of an MDF.
pub mod MdfTies
