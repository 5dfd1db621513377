-- What is written for an answer, and how the command ends then.
use Rattle.std.proofs.Common.{◌≡◌, ◌≢◌, ℕ, List, [], Option, Result, Ok as OkResult, Err, inl, inr, refl, ◌∙◌, subst, arith}
use Rattle.lsl_ports.specs.Counts.{NoneFell, Rose}
use Rattle.lsl_ports.specs.Shelf.{Files}
use Rattle.lsl_ports.specs.Growth.{Grew, GrewPartly}
use Rattle.lsl_ports.specs.Trips.{Trip}
use Rattle.lsl_ports.proofs.Growth.{begins-none}
use Rattle.lsl_ports.specs.declared.reading.ShelfFault.{ShelfFault}
use Rattle.lsl_ports.specs.declared.reading.ShelfFault.TheVariants.{Failed, NoMemory as OutOfMemory}
use Rattle.lsl_tree.specs.Program.{Program}
use Rattle.lsl_region.specs.Worlds.{World}
use Rattle.lsl_world.specs.Lossy.{IsFairFrom, Stage}
use Rattle.lsl_top.specs.Answers.{Answer, Grade, Due, Written, plain}
use Rattle.lsl_top.specs.Goes.{Performs}
use Rattle.lsl_top.specs.Pieces.{Piece}
use Rattle.lsl_top.specs.Ports.{Concludes, Finishes, IsOwn, Keeping, Log, Ports, Serves, Wire, Writes, status_after, unread_status}
use Rattle.lsl_top.specs.Promise.{IsBegun, IsWhole, KeepsTo}
use Rattle.lsl_top.specs.declared.status.Status.{Status}
use Rattle.lsl_top.specs.declared.status.Status.TheVariants.{Ok, Usage, BadWorld, BadScript, ReadFault, WriteFault, BadImage, NoMemory, BadNote}
use Rattle.lsl_top.specs.declared.writing.Trouble.{Trouble}
use Rattle.lsl_top.specs.declared.writing.Trouble.TheVariants.{WriteFault as WriteTrouble, NoMemory as MemoryTrouble}
use Rattle.lsl_top.proofs.Written.{rose-later}
use Rattle.lsl_top.proofs.Pieces.{begun-one, whole-one}
use Rattle.lsl_top.proofs.Trips.{went-none}

-- what keeps to some answers keeps to answers that these are
pub keeps-as : (IsOne IsOther : Grade → Answer → Type 0) (status : Status) (trips : List Trip)
    (old new : Option (List ℕ))
    → ((grade : Grade) (answer : Answer) → IsOne grade answer → IsOther grade answer)
    → KeepsTo IsOne status trips old new → KeepsTo IsOther status trips old new
keeps-as IsOne IsOther Ok trips old new f k = (k.0, f Written k.0 k.1, k.2, k.3)
keeps-as IsOne IsOther BadWorld trips old new f k = (k.0, f Written k.0 k.1, k.2, k.3)
keeps-as IsOne IsOther BadScript trips old new f k = (k.0, f Written k.0 k.1, k.2, k.3)
keeps-as IsOne IsOther BadImage trips old new f k = (k.0, f Written k.0 k.1, k.2, k.3)
keeps-as IsOne IsOther BadNote trips old new f k = (k.0, f Written k.0 k.1, k.2, k.3)
keeps-as IsOne IsOther WriteFault trips old new f k = (k.0, f Due k.0 k.1, k.2)
keeps-as IsOne IsOther NoMemory trips old new f (inl e) = inl e
keeps-as IsOne IsOther NoMemory trips old new f (inr k) = inr (k.0, f Due k.0 k.1, k.2)
keeps-as IsOne IsOther Usage trips old new f k = k
keeps-as IsOne IsOther ReadFault trips old new f k = k

-- an answer of one piece, which sends nothing
plain-whole : (status : Status) (lines : List ℕ) (old new : Option (List ℕ)) → Grew old new lines
    → IsWhole (plain status lines).pieces [] old new
plain-whole status lines old new grew =
    whole-one (record { lines = lines; sent = [] }) lines [] old new refl refl grew

plain-begun : (status : Status) (lines : List ℕ) (old new : Option (List ℕ)) → GrewPartly old new lines
    → IsBegun (plain status lines).pieces [] old new
plain-begun status lines old new part =
    (0, begun-one (record { lines = lines; sent = [] }) lines [] old new refl (begins-none []) part)

own-keeps : (IsAnswer : Answer → Type 0) (answer : Answer) (trips : List Trip) (old new : Option (List ℕ))
    (status : Status) → IsOwn status → answer.status ≡ status → IsAnswer answer
    → IsWhole answer.pieces trips old new → KeepsTo (λ grade. IsAnswer) status trips old new
own-keeps IsAnswer answer trips old new Ok own e is whole = (answer, is, e, whole)
own-keeps IsAnswer answer trips old new BadWorld own e is whole = (answer, is, e, whole)
own-keeps IsAnswer answer trips old new BadScript own e is whole = (answer, is, e, whole)
own-keeps IsAnswer answer trips old new BadImage own e is whole = (answer, is, e, whole)
own-keeps IsAnswer answer trips old new BadNote own e is whole = (answer, is, e, whole)
own-keeps IsAnswer answer trips old new Usage own e is whole = absurd own
own-keeps IsAnswer answer trips old new ReadFault own e is whole = absurd own
own-keeps IsAnswer answer trips old new WriteFault own e is whole = absurd own
own-keeps IsAnswer answer trips old new NoMemory own e is whole = absurd own

own-write : (status : Status) → IsOwn status → status ≢ WriteFault
own-write status own e = subst IsOwn e own

own-read : (status : Status) → IsOwn status → status ≢ ReadFault
own-read status own e = subst IsOwn e own

own-usage : (status : Status) → IsOwn status → status ≢ Usage
own-usage status own e = subst IsOwn e own

-- an answer was written, or a prefix of it
pub finish-written : {T : Type 0} (IsAnswer : Answer → Type 0) (status : Status) (lines : List ℕ) (a b : Log)
    (r : Result T Trouble) → IsOwn status → IsAnswer (plain status lines) → Writes lines a b r
    → Finishes IsAnswer a b (status_after r status)
finish-written IsAnswer status lines a b (OkResult t) own is w = record {
  keeps = own-keeps IsAnswer (plain status lines) [] a.sunk b.sunk status own refl is
      (plain-whole status lines a.sunk b.sunk w.ok);
  answers = λ h. (plain status lines, is, refl);
  counted = w.counted;
  cause = λ f. absurd (own-write status own f);
  no_read = own-read status own;
  no_usage = own-usage status own;
}
finish-written IsAnswer status lines a b (Err WriteTrouble) own is w = record {
  keeps = (plain status lines, is, plain-begun status lines a.sunk b.sunk w.part);
  answers = λ h. absurd h;
  counted = w.counted;
  cause = λ f. w.cause refl;
  no_read = λ f. cc;
  no_usage = λ f. cc;
}
finish-written IsAnswer status lines a b (Err MemoryTrouble) own is w = record {
  keeps = inr (plain status lines, is, plain-begun status lines a.sunk b.sunk w.part);
  answers = λ h. absurd h;
  counted = w.counted;
  cause = λ f. absurd (cc);
  no_read = λ f. cc;
  no_usage = λ f. cc;
}

-- nothing was written when out of memory
pub finish-memory : (IsAnswer : Answer → Type 0) (a : Log) → Finishes IsAnswer a a NoMemory
finish-memory IsAnswer a = record {
  keeps = inl (refl, refl);
  answers = λ h. absurd h;
  counted = omega arith;
  cause = λ f. absurd (cc);
  no_read = λ f. cc;
  no_usage = λ f. cc;
}

-- the same for what doesn't look at trips, and where the link wasn't called
pub concludes-finished : (gives : List ℕ → Option (List ℕ) → Type 0) (IsFair : List Trip → Type 0)
    (IsOne : Answer → Type 0) (Fits : World → Type 0)
    (IsAnswer : Grade → World → List Trip → Answer → Type 0) (a b : Log) (p : Wire) (status : Status)
    → ((grade : Grade) (from : World) (trips : List Trip) (answer : Answer) → IsOne answer
    → IsAnswer grade from trips answer)
    → Finishes IsOne a b status → Concludes gives IsFair Fits IsAnswer a b p p status
concludes-finished gives IsFair IsOne Fits IsAnswer a b p status f h = record {
  trips = [];
  went = went-none gives p.told;
  silent = λ e. refl;
  keeps = λ from fits honest. keeps-as (λ grade. IsOne) (λ grade. IsAnswer grade from []) status [] a.sunk b.sunk
      (λ grade. f grade from []) h.keeps;
  answers = λ from trips own. let (answer, is, e) = h.answers own in (answer, f Due from trips answer is, e);
  counted = h.counted;
  links_counted = omega arith;
  cause = h.cause;
  no_read = h.no_read;
  no_usage = h.no_usage;
}

-- a run of these programs, from where it begins by the world that was frozen, with its pieces
module _ (gives : List ℕ → Option (List ℕ) → Type 0) (IsFair : List Trip → Type 0) (Fits : World → Type 0)
    (IsAnswer : Grade → World → List Trip → Answer → Type 0) (IsThen : List Program → Stage → Type 0)
    (Then : List Program → Stage → List Trip → Type 0) (pieces : List Program → Stage → List Trip → List Piece)
    (programs : List Program) (whence : World → Stage) (told : World → List Trip → List Piece)
    (there : (from : World) → Fits from → IsThen programs (whence from))
    (fair : (from : World) (trips : List Trip) → IsFair trips → IsFairFrom (whence from) trips)
    (same : (from : World) (trips : List Trip) → pieces programs (whence from) trips ≡ told from trips) where
  abbrev run_of : World → List Trip → Answer
  run_of from trips = record { status = Ok; pieces = told from trips }

  -- it was written and sent, or begun
  pub concludes-performed : {T : Type 0} (a b : Log) (p q : Wire) (r : Result T Trouble)
      → ((from : World) (trips : List Trip) → IsAnswer Due from trips (run_of from trips))
      → ((from : World) (trips : List Trip) → Then programs (whence from) trips
      → IsAnswer Written from trips (run_of from trips))
      → Performs gives IsThen Then pieces a b p q r → Concludes gives IsFair Fits IsAnswer a b p q (status_after r Ok)
  concludes-performed a b p q (OkResult t) due written h = record {
    trips = h.trips;
    went = h.went;
    silent = λ e. absurd e;
    keeps = λ from fits is.
        let (whole, last) = h.runs programs (whence from) (there from fits) (fair from h.trips is) in (
          run_of from h.trips,
          written from h.trips last,
          refl,
          subst (λ (z : List Piece). IsWhole z h.trips a.sunk b.sunk) (same from h.trips) whole,
        );
    answers = λ from trips own. (run_of from trips, due from trips, refl);
    counted = h.counted;
    links_counted = h.links_counted;
    cause = λ f. absurd (cc);
    no_read = λ f. cc;
    no_usage = λ f. cc;
  }
  concludes-performed a b p q (Err WriteTrouble) due written h = record {
    trips = h.trips;
    went = h.went;
    silent = λ e. absurd e;
    keeps = λ from fits is. (
      run_of from h.trips,
      due from h.trips,
      subst (λ (z : List Piece). IsBegun z h.trips a.sunk b.sunk) (same from h.trips)
          (h.runs programs (whence from) (there from fits) (fair from h.trips is)),
    );
    answers = λ from trips own. absurd own;
    counted = h.counted;
    links_counted = h.links_counted;
    cause = λ f. h.cause refl;
    no_read = λ f. cc;
    no_usage = λ f. cc;
  }
  concludes-performed a b p q (Err MemoryTrouble) due written h = record {
    trips = h.trips;
    went = h.went;
    silent = λ e. absurd e;
    keeps = λ from fits is. inr (
      run_of from h.trips,
      due from h.trips,
      subst (λ (z : List Piece). IsBegun z h.trips a.sunk b.sunk) (same from h.trips)
          (h.runs programs (whence from) (there from fits) (fair from h.trips is)),
    );
    answers = λ from trips own. absurd own;
    counted = h.counted;
    links_counted = h.links_counted;
    cause = λ f. absurd (cc);
    no_read = λ f. cc;
    no_usage = λ f. cc;
  }

-- there was no memory before anything was written or sent
pub concludes-memory : (gives : List ℕ → Option (List ℕ) → Type 0) (IsFair : List Trip → Type 0) (Fits : World → Type 0)
    (IsAnswer : Grade → World → List Trip → Answer → Type 0) (a : Log) (p : Wire)
    → Concludes gives IsFair Fits IsAnswer a a p p NoMemory
concludes-memory gives IsFair Fits IsAnswer a p = record {
  trips = [];
  went = went-none gives p.told;
  silent = λ e. refl;
  keeps = λ from fits honest. inl (refl, refl);
  answers = λ from trips own. absurd own;
  counted = omega arith;
  links_counted = omega arith;
  cause = λ f. absurd (cc);
  no_read = λ f. cc;
  no_usage = λ f. cc;
}

-- what fits one play and results from it fits another, and results from that
pub concludes-as : (gives : List ℕ → Option (List ℕ) → Type 0) (IsFair : List Trip → Type 0)
    (OneFits Fits : World → Type 0)
    (IsOne IsAnswer : Grade → World → List Trip → Answer → Type 0) (a b : Log) (p q : Wire) (status : Status)
    → ((from : World) → Fits from → OneFits from)
    → ((grade : Grade) (from : World) (trips : List Trip) (answer : Answer) → IsOne grade from trips answer
    → IsAnswer grade from trips answer)
    → Concludes gives IsFair OneFits IsOne a b p q status → Concludes gives IsFair Fits IsAnswer a b p q status
concludes-as gives IsFair OneFits Fits IsOne IsAnswer a b p q status fit f h = record {
  trips = h.trips;
  went = h.went;
  silent = h.silent;
  keeps = λ from fits honest.
      keeps-as (λ grade. IsOne grade from h.trips) (λ grade. IsAnswer grade from h.trips) status h.trips a.sunk b.sunk
      (λ grade. f grade from h.trips) (h.keeps from (fit from fits) honest);
  answers = λ from trips own. let (answer, is, e) = h.answers from trips own in (answer, f Due from trips answer is, e);
  counted = h.counted;
  links_counted = h.links_counted;
  cause = h.cause;
  no_read = h.no_read;
  no_usage = h.no_usage;
}

module _ (gives : List ℕ → Option (List ℕ) → Type 0) (IsFair : List Trip → Type 0) (Kept : Keeping)
    (IsAnswer : Grade → World → List Trip → Answer → Type 0) (IsName : List ℕ → Type 0) (held later : Option Files)
    (faults counted : List ℕ → ℕ) (same : later ≡ held) (fell : NoneFell faults counted) where
  abbrev Served : Log → Log → Wire → Wire → Status → Type 0
  Served a b p q status =
      Serves gives IsFair Kept IsAnswer IsName (record { held = held; read_faults = faults; log = a; wire = p })
      (record { held = later; read_faults = counted; log = b; wire = q }) status

  -- the files were read, and then an answer was written and sent
  pub serve-concluded : (OneFits : World → Type 0) (IsOne : Grade → World → List Trip → Answer → Type 0) (a b : Log)
      (p q : Wire) (status : Status)
      → ((trips : List Trip)
      → ((from : World) → OneFits from → KeepsTo (λ grade. IsOne grade from trips) status trips a.sunk b.sunk)
      → Kept trips status a.sunk b.sunk)
      → ((from : World) (trips : List Trip) (answer : Answer) → IsOne Due from trips answer
      → IsAnswer Due from trips answer)
      → Concludes gives IsFair OneFits IsOne a b p q status → Served a b p q status
  serve-concluded OneFits IsOne a b p q status kept f h = record {
    trips = h.trips;
    went = h.went;
    silent = h.silent;
    keeps = λ honest. kept h.trips (λ from fits. h.keeps from fits honest);
    answers = λ from trips own. let (answer, is, e) = h.answers from trips own in (answer, f from trips answer is, e);
    nothing = λ e. absurd (h.no_read e);
    read_fault = λ e. absurd (h.no_read e);
    write_fault = h.cause;
    no_usage = h.no_usage;
    unchanged = same;
    reads_counted = fell;
    writes_counted = h.counted;
    links_counted = h.links_counted;
  }

  -- the same for an answer that sends nothing
  pub serve-finished : (IsOne : Answer → Type 0) (a b : Log) (p : Wire) (status : Status)
      → (KeepsTo (λ grade. IsOne) status [] a.sunk b.sunk → Kept [] status a.sunk b.sunk)
      → ((from : World) (trips : List Trip) (answer : Answer) → IsOne answer → IsAnswer Due from trips answer)
      → Finishes IsOne a b status → Served a b p p status
  serve-finished IsOne a b p status kept f h = record {
    trips = [];
    went = went-none gives p.told;
    silent = λ e. refl;
    keeps = λ honest. kept h.keeps;
    answers = λ from trips own. let (answer, is, e) = h.answers own in (answer, f from trips answer is, e);
    nothing = λ e. absurd (h.no_read e);
    read_fault = λ e. absurd (h.no_read e);
    write_fault = h.cause;
    no_usage = h.no_usage;
    unchanged = same;
    reads_counted = fell;
    writes_counted = h.counted;
    links_counted = omega arith;
  }

  -- memory ran out before anything was written
  pub serve-memory : (a : Log) (p : Wire) → Kept [] NoMemory a.sunk a.sunk → Served a a p p NoMemory
  serve-memory a p lost =
      serve-finished (λ answer. ⊥) a a p NoMemory (λ k. lost) (λ from trips answer never. absurd never)
      (finish-memory (λ answer. ⊥) a)

  -- a file wasn't read
  pub serve-unread : (a : Log) (p : Wire) (fault : ShelfFault) → Kept [] NoMemory a.sunk a.sunk
      → Kept [] ReadFault a.sunk a.sunk
      → (fault ≡ Failed → (name : List ℕ) × IsName name × Rose (faults name) (counted name))
      → Served a a p p (unread_status fault)
  serve-unread a p OutOfMemory lost failed rose = serve-memory a p lost
  serve-unread a p Failed lost failed rose = record {
    trips = [];
    went = went-none gives p.told;
    silent = λ e. refl;
    keeps = λ honest. failed;
    answers = λ from trips own. absurd own;
    nothing = λ e. refl;
    read_fault = λ e. rose refl;
    write_fault = λ e. absurd (cc);
    no_usage = λ e. cc;
    unchanged = same;
    reads_counted = fell;
    writes_counted = omega arith;
    links_counted = omega arith;
  }

-- a file was read before, and nothing was written or sent yet
pub serve-later : (gives : List ℕ → Option (List ℕ) → Type 0) (IsFair : List Trip → Type 0) (OneKept Kept : Keeping)
    (IsOne IsAnswer : Grade → World → List Trip → Answer → Type 0) (IsOneName IsName : List ℕ → Type 0)
    (held later : Option Files) (faults counted : List ℕ → ℕ) (a : Log) (p : Wire) (new : Ports) (status : Status)
    → later ≡ held → NoneFell faults counted
    → ((trips : List Trip) → OneKept trips status a.sunk new.log.sunk → Kept trips status a.sunk new.log.sunk)
    → ((from : World) (trips : List Trip) (answer : Answer) → IsOne Due from trips answer
    → IsAnswer Due from trips answer)
    → ((name : List ℕ) → IsOneName name → IsName name)
    → Serves gives IsFair OneKept IsOne IsOneName
    (record { held = later; read_faults = counted; log = a; wire = p }) new status
    → Serves gives IsFair Kept IsAnswer IsName
    (record { held = held; read_faults = faults; log = a; wire = p }) new status
serve-later gives IsFair OneKept Kept IsOne IsAnswer IsOneName IsName held later faults counted a p new status same
    fell kept f g h = record {
      trips = h.trips;
      went = h.went;
      silent = h.silent;
      keeps = λ honest. kept h.trips (h.keeps honest);
      answers = λ from trips own. let (answer, is, e) = h.answers from trips own in (answer, f from trips answer is, e);
      nothing = h.nothing;
      read_fault = λ e. let (name, is, rose) = h.read_fault e in (
        name,
        g name is,
        rose-later (faults name) (counted name) (new.read_faults name) (fell name)
            (h.reads_counted name) rose,
      );
      write_fault = h.write_fault;
      no_usage = h.no_usage;
      unchanged = h.unchanged ∙ same;
      reads_counted = λ name. let x = fell name in let y = h.reads_counted name in omega arith;
      writes_counted = h.writes_counted;
      links_counted = h.links_counted;
    }
