-- That the contracts settle the reply, every lent word and every byte of the output.
pub mod Said
pub mod OneWriting
pub mod Read
pub mod Settled
pub mod MdfSettled
pub mod Told
