-- A seed's world that was replayed over a sink that digests, and the line that is written of it.
use Rattle.std.proofs.Common.{◌≡◌, ◌≢◌, ℕ, ◌<◌, suc, List, [], ◌∷◌, ◌++◌, take, Option, Some, None, Result, Ok as OkResult, Err, ◌⊎◌, inl, inr, refl, sym, ap, ap₂, ◌∙◌, subst, arith}
use Rattle.std.specs.Str.{encode_utf8_all}
use Rattle.std.proofs.lemmas.Str.{encodes-IsAscii}
use Rattle.lsl_made.specs.Walker.{walker_text}
use Rattle.lsl_made.specs.World.{world_text}
use Rattle.lsl_made.proofs.WorldSpelling.{walker_text-ascii, world_text-ascii}
use Rattle.lsl_ports.specs.Counts.{Rose}
use Rattle.lsl_ports.specs.Shelf.{Files}
use Rattle.lsl_ports.specs.Growth.{Begins, GrewPartly}
use Rattle.lsl_ports.specs.Trips.{Honest, Trip, Went, sent_of}
use Rattle.lsl_ports.proofs.Growth.{begins-all, begins-is, begins-none, grew-none, partly-begins}
use Rattle.lsl_image.specs.Images.{IsIntact}
use Rattle.lsl_region.specs.Worlds.{World}
use Rattle.lsl_top.specs.Answers.{Answer, Grade, Due, Written, Makes, ReplaysFile, made_piece, plain, summed, summed_as}
use Rattle.lsl_top.specs.Froms.{IsFromFile}
use Rattle.lsl_top.specs.Lines.{note_refusal_of, refusal_of, world_refusal_of}
use Rattle.lsl_top.specs.Made.{made_files, made_line, made_name, two_files}
use Rattle.lsl_top.specs.Named.{IsNamedIn}
use Rattle.lsl_top.specs.Pieces.{Piece, sent_in}
use Rattle.lsl_top.specs.Plays.{Whole}
use Rattle.lsl_top.specs.Ports.{Concludes, HasAnswer, IsOwn, Keeping, Log, Serves, Wire, Writes, status_after}
use Rattle.lsl_top.specs.Promise.{IsBegun, IsWhole, KeepsFile, KeepsTo, SendsNothing, Wrote, WrotePart}
use Rattle.lsl_top.specs.declared.status.Status.{Status}
use Rattle.lsl_top.specs.declared.status.Status.TheVariants.{Ok, Usage, BadWorld, BadScript, ReadFault, WriteFault, BadImage, NoMemory, BadNote}
use Rattle.lsl_top.specs.declared.writing.Trouble.{Trouble}
use Rattle.lsl_top.specs.declared.writing.Trouble.TheVariants.{WriteFault as WriteTrouble, NoMemory as MemoryTrouble}
use Rattle.lsl_top.proofs.Finishing.{keeps-as}
use Rattle.lsl_top.proofs.KeptFrom.{keeps_file-from}
use Rattle.lsl_top.proofs.OneAnswer.{files-one}
use Rattle.lsl_top.proofs.Pieces.{begins-through, begun-one, sent-begins, whole-one}
use Rattle.lsl_top.proofs.Trips.{went-then}

-- one line takes the place of a report
pub summed-well : (number : ℕ) (answer : Answer) → answer.status ≡ Ok
    → summed number answer ≡ record { status = Ok; pieces = made_piece number answer.pieces ∷ [] }
summed-well number answer e = ap (λ (s : Status). summed_as s number answer) e

-- and what isn't one stays as it is
same-as : (status : Status) (number : ℕ) (answer : Answer) → status ≢ Ok → summed_as status number answer ≡ answer
same-as Ok number answer other = absurd (other refl)
same-as Usage number answer other = refl
same-as BadWorld number answer other = refl
same-as BadScript number answer other = refl
same-as ReadFault number answer other = refl
same-as WriteFault number answer other = refl
same-as BadImage number answer other = refl
same-as NoMemory number answer other = refl
same-as BadNote number answer other = refl

pub summed-other : (number : ℕ) (answer : Answer) → answer.status ≢ Ok → summed number answer ≡ answer
summed-other number answer other = same-as answer.status number answer other

-- a refusal
record IsRefusal (answer : Answer) : Type 0 where
  pub other : answer.status ≢ Ok
  pub lines : List ℕ
  pub same : answer ≡ plain answer.status lines

refused : (answer : Answer) (status : Status) (lines : List ℕ) → status ≢ Ok → answer ≡ plain status lines
    → IsRefusal answer
refused answer status lines other e =
    subst (λ (a : Answer). IsRefusal a) (sym e) (record { other = other; lines = lines; same = refl })

-- nothing was written, and a prefix of what one piece sends was sent
nothing-begun : (p : Piece) (trips : List Trip) (told : Option (List ℕ)) → Begins (sent_of trips) p.sent
    → IsBegun (p ∷ []) trips told told
nothing-begun p trips told sent = (
  0,
  begun-one p p.lines trips told told refl sent
      (partly-begins told told [] p.lines (grew-none told) (begins-none p.lines)),
)

-- no count rose where both are 0
pub none-rose : Rose 0 0 → ⊥
none-rose rose = let lt : 0 < 0 = rose (omega arith) in omega (arith, lt)

-- a shelf with the two texts of a seed, as bytes
pub two-made : (number : ℕ) (world script : List ℕ) → world ≡ encode_utf8_all (world_text number)
    → script ≡ encode_utf8_all walker_text → Some (two_files world script) ≡ Some (made_files number)
two-made number world script e f =
    ap₂ (λ (w s : List ℕ). Some (two_files w s)) (e ∙ encodes-IsAscii (world_text number) (world_text-ascii number))
    (f ∙ encodes-IsAscii walker_text walker_text-ascii)

module _ (number : ℕ) (held : Option Files) (is : held ≡ Some (made_files number)) where
  abbrev Replayed : Grade → World → List Trip → Answer → Type 0
  Replayed grade from trips = ReplaysFile grade held from trips Whole made_name

  abbrev Made : Grade → World → List Trip → Answer → Type 0
  Made grade from trips = Makes grade from trips number

  made-of : (grade : Grade) (from : World) (trips : List Trip) (answer : Answer) → Replayed grade from trips answer
      → Made grade from trips (summed number answer)
  made-of grade from trips answer h = (
    answer,
    subst (λ (z : Option Files). ReplaysFile grade z from trips Whole made_name answer) is h,
    refl,
  )

  -- a generated world wasn't frozen, so any fits
  pub made-fits : (from : World) → IsFromFile held Whole made_name from
  made-fits from =
      λ bytes file holds good read are programs codes all has cards noted. tt

  run-or-refusal : (grade : Grade) (from : World) (trips : List Trip) (answer : Answer)
      → Replayed grade from trips answer → (answer.status ≡ Ok) ⊎ IsRefusal answer
  run-or-refusal grade from trips answer (
    bytes,
    holds,
    inl (
      file,
      good,
      (
        bytes_read,
        had,
        inl (
          programs,
          codes,
          all,
          has,
          inl (cards, read, come),
        ),
      ),
    ),
  ) =
      inl (ap (λ (a : Answer). a.status) come.1)
  run-or-refusal grade from trips answer (
    bytes,
    holds,
    inl (
      file,
      good,
      (
        bytes_read,
        had,
        inl (
          programs,
          codes,
          all,
          has,
          inr (name, fault, first, e),
        ),
      ),
    ),
  ) =
      inr (refused answer BadNote (note_refusal_of name fault) (λ f. cc) e)
  run-or-refusal grade from trips answer
      (bytes, holds, inl (file, good, (bytes_read, had, inr (name, fault, first, e)))) =
      inr (refused answer BadScript (refusal_of name fault) (λ f. cc) e)
  run-or-refusal grade from trips answer (bytes, holds, inr (fault, first, e)) =
      inr (refused answer BadWorld (world_refusal_of made_name fault) (λ f. cc) e)

  -- a prefix of what the answer sends was sent, and nothing was written
  summed-begun : (answer : Answer) (trips : List Trip) (told : Option (List ℕ))
      → (answer.status ≡ Ok) ⊎ IsRefusal answer
      → Begins (sent_of trips) (sent_in answer.pieces) → IsBegun (summed number answer).pieces trips told told
  summed-begun answer trips told (inl e) sent =
      subst (λ (a : Answer). IsBegun a.pieces trips told told) (sym (summed-well number answer e))
      (nothing-begun (made_piece number answer.pieces) trips told sent)
  summed-begun answer trips told (inr r) sent =
      subst (λ (a : Answer). IsBegun a.pieces trips told told) (sym (summed-other number answer r.other ∙ r.same))
      (nothing-begun (record { lines = r.lines; sent = [] }) trips told
      (subst (λ (a : Answer). Begins (sent_of trips) (sent_in a.pieces)) r.same sent))

  pub part-made : (from : World) (trips : List Trip) (a b told : Option (List ℕ))
      → WrotePart (Replayed Due from trips) trips a b → WrotePart (Made Due from trips) trips told told
  part-made from trips a b told (answer, h, (done, s)) = (
    summed number answer,
    made-of Due from trips answer h,
    summed-begun answer trips told (run-or-refusal Due from trips answer h)
        (begins-through (sent_of trips) (sent_in (take (suc done) answer.pieces)) (sent_in answer.pieces) s.sent
        (sent-begins (suc done) answer.pieces)),
  )

  -- the bytes that were digested are a report, and its line was written, or a part of it
  module _ (bytes : List ℕ) (from : World) (trips : List Trip) (a b : Log)
      (whole : Wrote (Replayed Written from trips) Ok trips (Some []) (Some bytes)) where
    abbrev report : Answer
    report = whole.0

    abbrev piece : Piece
    piece = made_piece number report.pieces

    the-line : made_line number bytes ≡ piece.lines
    the-line = ap (λ (z : List ℕ). made_line number z) (ap value whole.3.written)
      where
        value : Option (List ℕ) → List ℕ
        value (Some taken) = taken
        value None = []

    in-line : summed number report ≡ record { status = Ok; pieces = piece ∷ [] }
    in-line = summed-well number report whole.2

    line-begun : GrewPartly a.sunk b.sunk (made_line number bytes)
        → IsBegun (summed number report).pieces trips a.sunk b.sunk
    line-begun part = subst (λ (z : Answer). IsBegun z.pieces trips a.sunk b.sunk) (sym in-line) (
      0,
      begun-one piece (made_line number bytes) trips a.sunk b.sunk the-line
          (begins-is (sent_of trips) (sent_of trips) piece.sent (begins-all (sent_of trips)) whole.3.sent) part,
    )

    pub keeps-line : {T : Type 0} (r : Result T Trouble) → Writes (made_line number bytes) a b r
        → KeepsTo (λ grade. Made grade from trips) (status_after r Ok) trips a.sunk b.sunk
    keeps-line (OkResult t) w = (
      summed number report,
      made-of Written from trips report whole.1,
      ap (λ (z : Answer). z.status) in-line,
      subst (λ (z : Answer). IsWhole z.pieces trips a.sunk b.sunk) (sym in-line)
          (whole-one piece (made_line number bytes) trips a.sunk b.sunk the-line whole.3.sent w.ok),
    )
    keeps-line (Err WriteTrouble) w = (
      summed number report,
      made-of Due from trips report whole.1,
      line-begun w.part,
    )
    keeps-line (Err MemoryTrouble) w = inr (
      summed number report,
      made-of Due from trips report whole.1,
      line-begun w.part,
    )

  module _ (gives : List ℕ → Option (List ℕ) → Type 0) (later : Option Files) (p q : Wire) where
    abbrev Kept : Keeping
    Kept trips = KeepsFile held trips Whole made_name

    -- an answer from any world
    keeps-from : (status : Status) (trips : List Trip) (bytes : List ℕ) (from : World)
        → Kept trips status (Some []) (Some bytes)
        → KeepsTo (λ grade. Replayed grade from trips) status trips (Some []) (Some bytes)
    keeps-from status trips bytes from k =
        keeps_file-from held trips Whole made_name status (Some []) (Some bytes) from k (made-fits from)

    -- what a replay over a sink that never fails reports, from its start
    abbrev Over : List ℕ → Status → Type 0
    Over bytes status =
        Serves gives (Honest IsIntact) Kept Replayed (IsNamedIn held Whole made_name)
        (record { held = held; read_faults = λ name. 0; log = record { sunk = Some []; faults = 0 }; wire = p })
        (record { held = later; read_faults = λ name. 0; log = record { sunk = Some bytes; faults = 0 }; wire = q })
        status

    abbrev Concluded : Wire → Wire → Log → Log → Status → Type 0
    Concluded before after a b status =
        Concludes gives (Honest IsIntact) (λ from. Unit {0})
        (λ grade from trips. Makes grade from trips number) a b before after status

    -- what a replay reports that begins with nothing taken
    pub over-of : (bytes taken : List ℕ) (status ended : Status) → taken ≡ [] → ended ≡ status
        → Serves gives (Honest IsIntact) Kept Replayed (IsNamedIn held Whole made_name)
        (record { held = held; read_faults = λ name. 0; log = record { sunk = Some taken; faults = 0 }; wire = p })
        (record { held = later; read_faults = λ name. 0; log = record { sunk = Some bytes; faults = 0 }; wire = q })
        ended
        → Over bytes status
    over-of bytes taken status ended e f h =
        subst (λ (z : Status). Over bytes z) f
        (subst (λ (z : List ℕ). Serves gives (Honest IsIntact) Kept Replayed (IsNamedIn held Whole made_name)
        (record { held = held; read_faults = λ name. 0; log = record { sunk = Some z; faults = 0 }; wire = p })
        (record { held = later; read_faults = λ name. 0; log = record { sunk = Some bytes; faults = 0 }; wire = q })
        ended)
        e h)

    -- the world was run, and its line was to be written
    pub concludes-line : {T : Type 0} (bytes : List ℕ) (a b : Log) (r : Result T Trouble) → Over bytes Ok
        → Writes (made_line number bytes) a b r → Concluded p q a b (status_after r Ok)
    concludes-line bytes a b r h w = record {
      trips = h.trips;
      went = h.went;
      silent = silent r;
      keeps = λ from fits honest.
          keeps-line bytes from h.trips a b (keeps-from Ok h.trips bytes from (h.keeps honest)) r w;
      answers = λ from trips own. found from trips (h.answers from trips tt) r own;
      counted = w.counted;
      links_counted = h.links_counted;
      cause = cause r w;
      no_read = no_read r;
      no_usage = no_usage r;
    }
      where
        silent : {T : Type 0} (r : Result T Trouble) → SendsNothing (status_after r Ok) → h.trips ≡ []
        silent (OkResult t) e = absurd e
        silent (Err WriteTrouble) e = absurd e
        silent (Err MemoryTrouble) e = absurd e

        found : {T : Type 0} (from : World) (trips : List Trip) → HasAnswer (Replayed Due from trips) Ok
            → (r : Result T Trouble) → IsOwn (status_after r Ok) → HasAnswer (Made Due from trips) (status_after r Ok)
        found from trips (answer, of, e) (OkResult t) own = (
          summed number answer,
          made-of Due from trips answer of,
          ap (λ (z : Answer). z.status)
              (summed-well number answer e),
        )
        found from trips answer (Err WriteTrouble) own = absurd own
        found from trips answer (Err MemoryTrouble) own = absurd own

        cause : {T : Type 0} (r : Result T Trouble) → Writes (made_line number bytes) a b r
            → status_after r Ok ≡ WriteFault → Rose a.faults b.faults
        cause (OkResult t) w e = absurd (cc)
        cause (Err WriteTrouble) w e = w.cause refl
        cause (Err MemoryTrouble) w e = absurd (cc)

        no_read : {T : Type 0} (r : Result T Trouble) → status_after r Ok ≢ ReadFault
        no_read (OkResult t) e = cc
        no_read (Err WriteTrouble) e = cc
        no_read (Err MemoryTrouble) e = cc

        no_usage : {T : Type 0} (r : Result T Trouble) → status_after r Ok ≢ Usage
        no_usage (OkResult t) e = cc
        no_usage (Err WriteTrouble) e = cc
        no_usage (Err MemoryTrouble) e = cc

    -- memory ran out while it was run
    pub concludes-lost : (bytes : List ℕ) (a : Log) → Over bytes NoMemory → Concluded p q a a NoMemory
    concludes-lost bytes a h = record {
      trips = h.trips;
      went = h.went;
      silent = λ e. absurd e;
      keeps = λ from fits honest. kept from (keeps-from NoMemory h.trips bytes from (h.keeps honest));
      answers = λ from trips own. absurd own;
      counted = omega arith;
      links_counted = h.links_counted;
      cause = λ f. absurd (cc);
      no_read = λ f. cc;
      no_usage = λ f. cc;
    }
      where
        kept : (from : World) → KeepsTo (λ grade. Replayed grade from h.trips) NoMemory h.trips (Some []) (Some bytes)
            → KeepsTo (λ grade. Made grade from h.trips) NoMemory h.trips a.sunk a.sunk
        kept from (inl e) = inl (refl, e.1)
        kept from (inr part) = inr (part-made from h.trips (Some []) (Some bytes) a.sunk part)

    -- it was refused: then nothing was sent
    is-refused : (bytes : List ℕ) (status : Status) → status ≢ Ok → status ≢ NoMemory → Over bytes status
        → SendsNothing status × IsOwn status
    is-refused bytes Ok well lost h = absurd (well refl)
    is-refused bytes NoMemory well lost h = absurd (lost refl)
    is-refused bytes BadWorld well lost h = (tt, tt)
    is-refused bytes BadScript well lost h = (tt, tt)
    is-refused bytes BadImage well lost h = (tt, tt)
    is-refused bytes BadNote well lost h = (tt, tt)
    is-refused bytes Usage well lost h = absurd (h.no_usage refl)
    is-refused bytes ReadFault well lost h = absurd (none-rose ((h.read_fault refl).2))
    is-refused bytes WriteFault well lost h = absurd (none-rose (h.write_fault refl))

    -- and the refusal was to be written as a second replay writes it
    pub concludes-refused : (bytes : List ℕ) (first second : Status) (ended : Option Files) (a b : Log) (s : Wire)
        → later ≡ held → first ≢ Ok → first ≢ NoMemory → Over bytes first
        → Serves gives (Honest IsIntact) (λ trips. KeepsFile later trips Whole made_name)
        (λ grade from trips. ReplaysFile grade later from trips Whole made_name) (IsNamedIn later Whole made_name)
        (record { held = later; read_faults = λ name. 0; log = a; wire = q })
        (record { held = ended; read_faults = λ name. 0; log = b; wire = s }) second
        → Concluded p s a b second
    concludes-refused bytes first second ended a b s same well lost h k = record {
      trips = k.trips;
      went = subst (λ (z : List Trip). Went gives p.told s.told (z ++ k.trips)) (h.silent known.0)
          (went-then gives p.told q.told s.told h.trips k.trips h.went k.went);
      silent = k.silent;
      keeps = λ from fits honest.
          keeps-as (λ grade. ReplaysFile grade later from k.trips Whole made_name) (λ grade. Made grade from k.trips)
          second
          k.trips a.sunk b.sunk (λ grade answer given. of grade from k.trips answer given)
          (keeps_file-from later k.trips Whole made_name second a.sunk b.sunk from (k.keeps honest)
          (subst (λ (z : Option Files). IsFromFile z Whole made_name from) (sym same) (made-fits from)));
      answers = λ from trips own.
          let (answer, given, e) = k.answers from trips own in (answer, of Due from trips answer given, e);
      counted = k.writes_counted;
      links_counted = let x = h.links_counted in let y = k.links_counted in omega arith;
      cause = k.write_fault;
      no_read = λ e. none-rose ((k.read_fault e).2);
      no_usage = k.no_usage;
    }
      where
        known : SendsNothing first × IsOwn first
        known = is-refused bytes first well lost h

        -- one world has one answer, so this is the refusal too
        other : (grade : Grade) (from : World) (trips : List Trip) (answer : Answer)
            → ReplaysFile grade (Some (made_files number)) from trips Whole made_name answer → answer.status ≢ Ok
        other grade from trips answer of e =
            let (mine, was, f) = h.answers from trips known.1 in
            let one : mine ≡ answer =
            files-one (made_files number) Due grade from trips Whole made_name mine answer
            (subst (λ (z : Option Files). ReplaysFile Due z from trips Whole made_name mine) is was) of in
            well (sym f ∙ ap (λ (z : Answer). z.status) one ∙ e)

        of : (grade : Grade) (from : World) (trips : List Trip) (answer : Answer)
            → ReplaysFile grade later from trips Whole made_name answer → Made grade from trips answer
        of grade from trips answer given =
            let there : ReplaysFile grade (Some (made_files number)) from trips Whole made_name answer =
            subst (λ (z : Option Files). ReplaysFile grade z from trips Whole made_name answer) (same ∙ is) given in (
              answer,
              there,
              sym (summed-other number answer (other grade from trips answer there)),
            )
