-- That the contracts settle the reply and every lent word.
pub mod Said
pub mod OneAnswer
pub mod Alone
pub mod Decided
pub mod Settled
pub mod Later
pub mod Counted
