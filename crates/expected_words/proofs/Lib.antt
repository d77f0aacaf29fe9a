-- Laws for callers (Laws: whatever stands before, all points of a part, keywords by their kinds; Lengths: how long the words are at most); and, inner, the cases of the code (Cases) and the last arms of its matches (Rest).
pub mod Laws
pub mod Lengths
pub mod Cases
pub mod Rest
