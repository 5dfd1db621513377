-- What a link was handed, and what came back of it.
use Rattle.std.specs.Prelude.{◌≡◌, ◌⊎◌, ℕ, List, map, All, Option, Some, None}
use Rattle.lsl_ports.specs.Growth.{Grew}

-- the bytes that were handed over, and those that came back, or none where that carrying failed
pub record Trip : Type 0 where
  pub sent : List ℕ
  pub back : Option (List ℕ)

-- what was handed over, in order
abbrev pub sent_of : List Trip → List (List ℕ)
sent_of trips = map (λ (t : Trip). t.sent) trips

-- nothing came back, or what was sent, or what is seen not to be it
abbrev pub CameBackSo : (List ℕ → Type 0) → List ℕ → Option (List ℕ) → Type 0
CameBackSo Intact sent None = Unit {0}
CameBackSo Intact sent (Some back) = (back ≡ sent) ⊎ (Intact back → ⊥)

-- each of these trips went so
abbrev pub Honest : (List ℕ → Type 0) → List Trip → Type 0
Honest Intact trips = All (λ (t : Trip). CameBackSo Intact t.sent t.back) trips

-- a link of this kind may make these trips; they are added where the link reports its trips
pub record Went (gives : List ℕ → Option (List ℕ) → Type 0) (old new : Option (List Trip)) (trips : List Trip)
    : Type 0 where
  pub grew : Grew old new trips
  pub given : All (λ (t : Trip). gives t.sent t.back) trips
