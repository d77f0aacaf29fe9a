-- `packed_frame::counts_told` meets its contract. Assumes nothing.
use Rattle.packed_frame.proofs.counts_told.Goals as goal

pub returns : goal.returns
returns c = λ i. record { segments = c.four_at.ensures i; lanes = c.four_at-2.ensures i; zones = c.four_at-3.ensures i; spots = c.four_at-4.ensures i; points = c.four_at-5.ensures i; checkpoints = c.four_at-6.ensures i; stops = c.four_at-7.ensures i; exits = c.four_at-8.ensures i }
