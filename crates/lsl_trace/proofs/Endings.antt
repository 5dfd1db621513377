-- How a trace ends, from the result of its world's replay.
use Rattle.std.proofs.Common.{◌≡◌, List, ℕ, Option, None, inl, inr, subst}
use Rattle.lsl_top.specs.Ends.{Outside, outside}
use Rattle.lsl_ports.specs.Shelf.{Files}
use Rattle.lsl_ports.specs.Trips.{Trip}
use Rattle.lsl_top.specs.declared.status.Status.{Status}
use Rattle.lsl_top.specs.declared.status.Status.TheVariants.{Ok, WriteFault}
use Rattle.lsl_trace.specs.Early.{StopsEarly}
use Rattle.lsl_trace.specs.Ended.{Comes, ComesOf, EndsSo, Replays, Taken, WritesAs}
use Rattle.lsl_trace.specs.declared.ended.Request.{Request}
use Rattle.lsl_trace.specs.declared.ended.Ended.{Ended}
use Rattle.lsl_trace.specs.declared.ended.Ended.TheVariants.{Told, Refused, TooLong}

-- a replay doesn't depend on what the sink took before, which it isn't given
pub over-any-sink : (gives : List ℕ → Option (List ℕ) → Type 0) (world : List ℕ) (held : Option Files)
    (reads : List ℕ → ℕ) (sunk : Option (List ℕ)) (writes : ℕ) (trips : Option (List Trip)) (links : ℕ)
    (status : Status) (written : List ℕ)
    → Replays gives world (outside held reads None 0 trips links) status written
    → Replays gives world (outside held reads sunk writes trips links) status written
over-any-sink gives world held reads sunk writes trips links status written r =
    record { after = r.after; ends = r.ends; sunk = r.sunk }

module _ (gives : List ℕ → Option (List ℕ) → Type 0) (request : Request) (before : Outside) (old new : Taken) where
  pub early-so : (result : Ended) → StopsEarly result → new.bytes ≡ old.bytes → EndsSo gives request before old new result
  early-so Told early same = absurd early
  early-so (Refused status) early same = inr (inr (early, same))
  early-so TooLong early same = same

  pub replayed-so : (status : Status) (written : List ℕ) (result : Ended)
      → Replays gives request.world.now before status written → WritesAs written (Refused status) old new result
      → EndsSo gives request before old new result
  replayed-so status written Told r (inl (is, grew)) = absurd (cc)
  replayed-so status written Told r (inr (is, breaks)) = absurd (cc)
  replayed-so status written TooLong r (inl (is, grew)) = absurd (cc)
  replayed-so status written TooLong r (inr (is, breaks)) = absurd (cc)
  replayed-so status written (Refused other) r (inl (is, grew)) =
      let e : status ≡ other = cc in
      inl (written, subst (λ (s : Status). Replays gives request.world.now before s written) e r, grew)
  replayed-so status written (Refused other) r (inr (is, breaks)) =
      let e : other ≡ WriteFault = cc in
      inr (inl (e, (written, inl (status, r), breaks)))

  pub comes-so : (journal : List ℕ) (result : Ended) → Replays gives request.world.now before Ok journal
      → Comes request journal old new result → EndsSo gives request before old new result
  comes-so journal Told r (inl (text, traces, inl (is, grew))) = (journal, text, r, traces, grew)
  comes-so journal Told r (inl (text, traces, inr (is, breaks))) = absurd (cc)
  comes-so journal TooLong r (inl (text, traces, inl (is, grew))) = absurd (cc)
  comes-so journal TooLong r (inl (text, traces, inr (is, breaks))) = absurd (cc)
  comes-so journal (Refused other) r (inl (text, traces, inl (is, grew))) = absurd (cc)
  comes-so journal (Refused other) r (inl (text, traces, inr (is, breaks))) =
      let e : other ≡ WriteFault = cc in
      inr (inl (e, (text, inr (journal, r, traces), breaks)))
  comes-so journal result r (inr (inl writes)) = replayed-so Ok journal result r writes
  comes-so journal result r (inr (inr (early, same))) = early-so result early same

  pub comes-of-so : (status : Status) (written : List ℕ) (result : Ended)
      → Replays gives request.world.now before status written → ComesOf request status written old new result
      → EndsSo gives request before old new result
  comes-of-so status written result r (inl (is, comes)) =
      comes-so written result (subst (λ (s : Status). Replays gives request.world.now before s written) is r) comes
  comes-of-so status written result r (inr (inl writes)) = replayed-so status written result r writes
  comes-of-so status written result r (inr (inr (early, same))) = early-so result early same
