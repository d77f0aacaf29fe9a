-- The places of the tables, by those that stand behind records with names. Assumes nothing.
use mathlib.Core.Path.{◌≡◌, ap, ◌∙◌}
use Prim.Native.Nat.{ℕ}
use Rattle.counts.specs.declared.Counts.{Counts}
use Rattle.unpacked_rows.specs.declared.Places.{Places}
use Rattle.packed_check.specs.Judgement.{behind, places_of}

pub places-made : (c : Counts) (segments lanes spots z p k s e : ℕ) → z ≡ behind lanes 12 c.lanes → p ≡ behind spots 8 c.spots → k ≡ behind p 10 c.points → s ≡ behind k 8 c.checkpoints → e ≡ behind s 6 c.stops
    → ◌≡◌ {A = Places} (record { segments = segments; lanes = lanes; zones = z; spots = spots; points = p; checkpoints = k; stops = s; exits = e }) (places_of c segments lanes spots)
places-made c segments lanes spots z p k s e hz hp hk hs he =
    let k₁ = hk ∙ ap (λ (x : ℕ). behind x 10 c.points) hp in
    let s₁ = hs ∙ ap (λ (x : ℕ). behind x 8 c.checkpoints) k₁ in
    let e₁ = he ∙ ap (λ (x : ℕ). behind x 6 c.stops) s₁ in
    λ i. record { segments = segments; lanes = lanes; zones = hz i; spots = spots; points = hp i; checkpoints = k₁ i; stops = s₁ i; exits = e₁ i }
