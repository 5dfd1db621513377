-- How a trace ended, from what is said of it over a shelf and a sink that reports a mark in front.
use Rattle.std.proofs.Common.{◌≡◌, ℕ, List, [], ◌∷◌, Some, ap, inl, inr, subst}
use Rattle.lsl_ports.specs.Growth.{Grew, GrewPartly}
use Rattle.lsl_ports.specs.Shelf.{Files}
use Rattle.lsl_top.specs.Ends.{Outside}
use Rattle.lsl_top.specs.Laws.{copies}
use Rattle.lsl_top.specs.declared.status.Status.{Status}
use Rattle.lsl_trace.specs.Ended.{Breaks, CanWrite, EndsSo, Replays, Taken, taken}
use Rattle.lsl_trace.specs.declared.ended.Request.{Request as Asked}
use Rattle.lsl_trace.specs.declared.ended.Ended.{Ended as Traced}
use Rattle.lsl_trace.specs.declared.ended.Ended.TheVariants.{Told, Refused, TooLong}
use Rattle.lsl_page.specs.Ended.{outside_of}
use Rattle.lsl_page.proofs.Marks.{behind, mark}

module _ (m n : ℕ) (a b : List ℕ) where
  grew-behind : (items : List ℕ) → Grew (Some (m ∷ a)) (Some (n ∷ b)) items → Grew (Some a) (Some b) items
  grew-behind items e = ap behind e

  part-behind : (items : List ℕ) → GrewPartly (Some (m ∷ a)) (Some (n ∷ b)) items → GrewPartly (Some a) (Some b) items
  part-behind items p = record { added = p.added; grew = ap behind p.grew; begins = p.begins }

  grew-mark : (items : List ℕ) → Grew (Some (m ∷ a)) (Some (n ∷ b)) items → n ≡ m
  grew-mark items e = ap mark e

  -- the mark is unchanged
  pub part-mark : (items : List ℕ) → GrewPartly (Some (m ∷ a)) (Some (n ∷ b)) items → n ≡ m
  part-mark items p = ap mark p.grew

-- a sink that reports a mark in front
module _ (files : Files) (asked : Asked) (m n : ℕ) (output : List ℕ) (refused : ℕ) where
  abbrev before : Outside
  before = outside_of files 0 (m ∷ []) 0

  abbrev old : Taken
  old = taken (Some (m ∷ [])) 0

  abbrev new : Taken
  new = taken (Some (n ∷ output)) refused

  -- a replay begins with a sink of its own
  replays : (status : Status) (written : List ℕ) → Replays copies asked.world.now before status written
      → Replays copies asked.world.now (outside_of files 0 [] 0) status written
  replays status written r = record { after = r.after; ends = r.ends; sunk = r.sunk }

  can-write : (bytes : List ℕ) → CanWrite copies asked before bytes
      → CanWrite copies asked (outside_of files 0 [] 0) bytes
  can-write bytes (inl (status, r)) = inl (status, replays status bytes r)
  can-write bytes (inr (journal, r, traces)) = inr (journal, replays _ journal r, traces)

  breaks : (bytes : List ℕ) → Breaks bytes old new → Breaks bytes (taken (Some []) 0) (taken (Some output) refused)
  breaks bytes broken = record { part = part-behind m n [] output bytes broken.part; rose = broken.rose }

  ends-behind : (ended : Traced) → EndsSo copies asked before old new ended
      → EndsSo copies asked (outside_of files 0 [] 0) (taken (Some []) 0) (taken (Some output) refused) ended
  ends-behind Told (journal, text, r, traces, grew) =
      (journal, text, replays _ journal r, traces, grew-behind m n [] output text grew)
  ends-behind (Refused status) (inl (written, r, grew)) =
      inl (written, replays status written r, grew-behind m n [] output written grew)
  ends-behind (Refused status) (inr (inl (is, (bytes, can, broken)))) =
      inr (inl (is, (bytes, can-write bytes can, breaks bytes broken)))
  ends-behind (Refused status) (inr (inr (is, same))) = inr (inr (is, ap behind same))
  ends-behind TooLong same = ap behind same

  mark-of : (ended : Traced) → EndsSo copies asked before old new ended → n ≡ m
  mark-of Told (journal, text, r, traces, grew) = grew-mark m n [] output text grew
  mark-of (Refused status) (inl (written, r, grew)) = grew-mark m n [] output written grew
  mark-of (Refused status) (inr (inl (is, (bytes, can, broken)))) = part-mark m n [] output bytes broken.part
  mark-of (Refused status) (inr (inr (is, same))) = ap mark same
  mark-of TooLong same = ap mark same

-- a shelf and a sink that counted nothing before, if nothing was written into the buffer
module _ (files : Files) (asked : Asked) (ended : Traced) (m n : ℕ) (start output : List ℕ)
    (reads writes refused : ℕ)
    (e : EndsSo copies asked (outside_of files reads (m ∷ start) writes) (taken (Some (m ∷ start)) writes)
    (taken (Some (n ∷ output)) refused) ended)
    (fresh : reads ≡ 0) (empty : start ≡ []) (calm : writes ≡ 0) where
  abbrev over : ℕ → List ℕ → ℕ → Type 0
  over reads start writes = EndsSo copies asked (outside_of files reads (m ∷ start) writes)
      (taken (Some (m ∷ start)) writes) (taken (Some (n ∷ output)) refused) ended

  from-nothing : over 0 [] 0
  from-nothing =
      subst (λ (k : ℕ). over 0 [] k) calm
      (subst (λ (xs : List ℕ). over 0 xs writes) empty (subst (λ (k : ℕ). over k start writes) fresh e))

  pub trace-mark : n ≡ m
  trace-mark = mark-of files asked m n output refused ended from-nothing

  pub trace-ends : EndsSo copies asked (outside_of files 0 [] 0) (taken (Some []) 0) (taken (Some output) refused) ended
  trace-ends = ends-behind files asked m n output refused ended from-nothing
