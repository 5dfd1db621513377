-- A link in memory after a call.
use Rattle.std.proofs.Common.{◌≡◌, ℕ, List, [], ◌∷◌, ◌++◌, true, false, Some, None, ◌∙◌, sym}
use Rattle.lsl_ports.specs.Counts.{raised}
use Rattle.lsl_ports.specs.Stored.{HasListsOf, LinkState, after_carry, damaged, fails_next, replaced}
use Rattle.lsl_ports.specs.Trips.{Trip}

state_is : (s t : LinkState) (trips : List Trip) (calls faults : ℕ) → HasListsOf s t → s.trips ≡ trips
    → s.calls ≡ calls → s.faults ≡ faults
    → s
    ≡ record {
      trips = trips;
      failing = t.failing;
      damages = t.damages;
      replacements = t.replacements;
      calls = calls;
      faults = faults;
    }
state_is s t trips calls faults lists a b c =
    rw (← a, ← b, ← c, ← lists.failing, ← lists.damages, ← lists.replacements)

module _ (old new : LinkState) (sent : List ℕ) (lists : HasListsOf new old) (calls : new.calls ≡ raised old.calls) where
  pub after-lost : fails_next old.failing old.calls ≡ true
      → new.trips ≡ old.trips ++ record { sent = sent; back = None } ∷ [] → new.faults ≡ raised old.faults
      → new ≡ after_carry old sent
  after-lost fails trips faults = rw fails (state_is new old _ (raised old.calls) _ lists trips calls faults)

  pub after-delivered : (call : ℕ) (back : List ℕ) → call ≡ raised old.calls
      → fails_next old.failing old.calls ≡ false
      → back ≡ damaged old.damages call (replaced old.replacements call sent)
      → new.trips ≡ old.trips ++ record { sent = sent; back = Some back } ∷ [] → new.faults ≡ old.faults
      → new ≡ after_carry old sent
  after-delivered call back is fails came trips faults =
      rw (fails, ← is, ← came) (state_is new old _ call _ lists trips (calls ∙ sym is) faults)
