-- A draft that runs, with jumps to where nothing waits, gives a function that is well formed.
use Rattle.std.proofs.Common.{◌≡◌, ℕ, suc, ◌+◌, ◌<◌, List, [], ◌∷◌, ◌++◌, length, reverse, Option, Some, None, option_map, Bool, true, refl, sym, ap, ◌∙◌, subst, arith, slice_get}
use Rattle.std.specs.Prelude.{not}
use Rattle.std.proofs.lemmas.List.{reverse-reverse}
use Rattle.lsl_value.specs.declared.tagged.Kind.{Kind}
use Rattle.lsl_code.specs.declared.instructions.Instr.{Instr}
use Rattle.lsl_code.specs.declared.instructions.Instr.TheVariants.{Jump, JumpIf, JumpIfNot, Tick, Call, Return, ReturnValue, GoState, Reset, TestSave, KeepSlot, KeepTop, Seal, TestBack, Unpack, BackSlot, BackTop, Branch, Again, Awake}
use Rattle.lsl_code.specs.declared.functions.Point.{Point}
use Rattle.lsl_code.specs.declared.signatures.Names.{Names}
use Rattle.lsl_code.specs.Bodies.{Body, plain_body}
use Rattle.lsl_code.specs.Drafts.{pointed, scan, finished}
use Rattle.lsl_code.specs.Effects.{behind, runs, waiting}
use Rattle.lsl_code.specs.Fits.{all_places, has_kinds, finds, goes_on, is_quiet, jumps_on, is_point, has_point, goes_on_with, fits_before, fits_where, fits_at, begins_with_tick, count_of, is_once, is_plain, plain_at}
use Rattle.lsl_code.specs.Forward.{is_back}
use Rattle.lsl_code.specs.Kinds.{Scope, scope}
use Rattle.lsl_code.specs.Units.{fits_running, fits_function, is_plain_function}
use Rattle.lsl_code.proofs.Numbering.{free_point, numbered_at, numbered_length, behind_pointed, goes_on_pointed, jumps_pointed, back_pointed, begins_pointed, plain_pointed}
use Rattle.lsl_code.proofs.Points.{PointAt, maps_at, once, points_lined}
use Rattle.lsl_code.proofs.Scans.{kinds_before, kinds_before_zero, scan_at, scan_length, runs_at, most_same}
use Rattle.lsl_code.proofs.Tested.{both, sames, sames_self, eq_self, eqs, less, all_if, take_length, within_list}
use Rattle.lsl_code.proofs.Ways.{Quiet, Way, Ways, way_at}

module _ (names : Names) (slots : List Kind) (result : Option Kind) (name : List ℕ) (params : ℕ) (d : List Instr)
  where
    abbrev s : Scope
    s = scope names slots result

    abbrev w : Body
    w = plain_body (finished name s params d)

    finds_ok : (t : ℕ) → t < length d → finds w t (kinds_before s d [] t) ≡ true
    finds_ok t lt =
        ap (λ o. has_kinds o (kinds_before s d [] t)) (scan_at s d [] t lt)
        ∙ sames_self (reverse (kinds_before s d [] t))

    quiet_ok : (q : ℕ) → Quiet s d q → is_quiet w.code q ≡ true
    quiet_ok q e =
        ap (λ o. not (is_back q o)) (numbered_at d 0 q) ∙ ap not (back_pointed (slice_get d q) q (free_point d 0 q)) ∙ e

    goes_on_way : (pc : ℕ) (i : Instr) → Way s d pc i → goes_on w pc i (kinds_before s d [] (pc + 1)) ≡ true
    goes_on_way pc (Jump t) h = subst (λ ks. finds w t ks ≡ true) (h.0.1 ∙ sym h.1) (finds_ok t h.0.0.0)
    goes_on_way pc (JumpIf t) h =
        both _ _ (subst (λ ks. finds w t ks ≡ true) (h.0.1 ∙ sym h.1.1) (finds_ok t h.0.0.0))
        (finds_ok (pc + 1) h.1.0.0)
    goes_on_way pc (JumpIfNot t) h =
        both _ _ (subst (λ ks. finds w t ks ≡ true) (h.0.1 ∙ sym h.1.1) (finds_ok t h.0.0.0))
        (finds_ok (pc + 1) h.1.0.0)
    goes_on_way pc (Tick line) h = finds_ok (pc + 1) h
    goes_on_way pc Return h = refl
    goes_on_way pc ReturnValue h = refl
    goes_on_way pc (GoState n) h = refl
    goes_on_way pc Reset h = refl
    goes_on_way pc (TestSave t) h = absurd h
    goes_on_way pc (TestBack t) h = absurd h
    goes_on_way pc i h = finds_ok (pc + 1) h.0

    jumps_way : (pc : ℕ) (i : Instr) → Way s d pc i → jumps_on w.code pc i ≡ true
    jumps_way pc (Jump t) h = both _ _ (quiet_ok t h.0.0.1) (quiet_ok (pc + 1) h.2)
    jumps_way pc (JumpIf t) h = both _ _ (quiet_ok t h.0.0.1) (quiet_ok (pc + 1) h.1.0.1)
    jumps_way pc (JumpIfNot t) h = both _ _ (quiet_ok t h.0.0.1) (quiet_ok (pc + 1) h.1.0.1)
    jumps_way pc (Tick line) h = refl
    jumps_way pc Return h = quiet_ok (pc + 1) h
    jumps_way pc ReturnValue h = quiet_ok (pc + 1) h
    jumps_way pc (GoState n) h = quiet_ok (pc + 1) h
    jumps_way pc Reset h = quiet_ok (pc + 1) h
    jumps_way pc (TestSave t) h = absurd h
    jumps_way pc (TestBack t) h = absurd h
    jumps_way pc i h = quiet_ok (pc + 1) h.1

    point_way : (i : Instr) (p : ℕ) (ks : List Kind) (points : List Point) → PointAt s i p ks points
        → has_point s points (pointed i p) ks ≡ true
    point_way (Tick line) p ks points e =
        ap (λ o. is_point o None (s.slots ++ reverse ks)) e ∙ sames_self (s.slots ++ reverse ks)
    point_way (Call f line) p ks points e =
        let js = s.slots ++ reverse (waiting (slice_get s.functions f) ks) in
        ap (λ o. is_point o (Some f) js) e ∙ both _ _ (eq_self f) (sames_self js)
    point_way i p ks points e = refl

    module _ (r : List Kind) (typed : runs s d [] ≡ Some r) (ways : Ways s d 0 d) where
      fits_here : (j : ℕ) (i : Instr) → slice_get d j ≡ Some i → fits_at s w j (pointed i (free_point d 0 j)) ≡ true
      fits_here j i e =
          let p = free_point d 0 j in
          let ks = kinds_before s d [] j in
          let i' = pointed i p in
          let z : suc j ≡ j + 1 = omega arith in
          let found : behind s i' ks ≡ Some (kinds_before s d [] (j + 1)) =
          behind_pointed s i p ks ∙ runs_at s d [] j i r typed e ∙ ap (λ n. Some (kinds_before s d [] n)) z in
          let on = goes_on_pointed w j i p (kinds_before s d [] (j + 1)) ∙ goes_on_way j i (way_at s d j i ways e) in
          ap (fits_where s w j i') (scan_at s d [] j (within_list d j i e))
          ∙ ap (fits_before s w j i') (reverse-reverse ks)
          ∙ both _ _ (ap (goes_on_with w j i') found ∙ on) (point_way i p ks w.points (maps_at s d [] j i e))

      jumps_here : (j : ℕ) (i : Instr) → slice_get d j ≡ Some i
          → jumps_on w.code j (pointed i (free_point d 0 j)) ≡ true
      jumps_here j i e = jumps_pointed w.code j i (free_point d 0 j) ∙ jumps_way j i (way_at s d j i ways e)

      -- a test of the code holds where it holds of each instruction of the draft with its point
      by_draft : (test : ℕ → Instr → Bool)
          → ((j : ℕ) (i : Instr) → slice_get d j ≡ Some i → test j (pointed i (free_point d 0 j)) ≡ true)
          → all_places test 0 w.code ≡ true
      by_draft test h = all_if test w.code (λ j x e. one j x (slice_get d j) refl (sym (numbered_at d 0 j) ∙ e))
        where
          one : (j : ℕ) (x : Instr) (o : Option Instr) → slice_get d j ≡ o
              → option_map (λ i. pointed i (free_point d 0 j)) o ≡ Some x → test j x ≡ true
          one j x None at e = absurd cc
          one j x (Some i) at e =
              let same : pointed i (free_point d 0 j) ≡ x = cc in subst (λ y. test j y ≡ true) same (h j i at)

      once_each : (j : ℕ) (pt : Point) → slice_get w.points j ≡ Some pt → is_once w.code j pt ≡ true
      once_each j pt e =
          let z : 0 + j ≡ j = omega arith in
          eqs _ _ (subst (λ n. count_of n w.code ≡ 1) z (once s d [] 0 j (within_list w.points j pt e)))

      plain_way : (pc : ℕ) (i : Instr) (ks js : List Kind) → behind s i ks ≡ Some js → Way s d pc i → is_plain i ≡ true
      plain_way pc (TestSave t) ks js e h = absurd h
      plain_way pc (TestBack t) ks js e h = absurd h
      plain_way pc (KeepSlot n) ks js e h = absurd cc
      plain_way pc KeepTop ks js e h = absurd cc
      plain_way pc (Seal point) ks js e h = absurd cc
      plain_way pc Unpack ks js e h = absurd cc
      plain_way pc (BackSlot n) ks js e h = absurd cc
      plain_way pc BackTop ks js e h = absurd cc
      plain_way pc Branch ks js e h = absurd cc
      plain_way pc (Again f) ks js e h = absurd cc
      plain_way pc Awake ks js e h = absurd cc
      plain_way pc i ks js e h = refl

      plain_here : (j : ℕ) (i : Instr) → slice_get d j ≡ Some i → plain_at j (pointed i (free_point d 0 j)) ≡ true
      plain_here j i e =
          plain_pointed i (free_point d 0 j)
          ∙ plain_way j i (kinds_before s d [] j) (kinds_before s d [] (suc j)) (runs_at s d [] j i r typed e)
          (way_at s d j i ways e)

      some_code : (d : List Instr) → begins_with_tick d ≡ true → 0 < length d
      some_code [] e = absurd cc
      some_code (i ∷ d) e = omega arith

      -- a draft that runs, with ways in order, gives a function that is well formed
      pub made : (f : ℕ) → begins_with_tick d ≡ true → length d < 4294967296 → fits_function names f w ≡ true
      made f begins short =
          let len : length w.stacks ≡ length w.code = scan_length s d [] ∙ sym (numbered_length d 0) in
          let lines : length w.lines ≡ length w.points = points_lined s d [] in
          let size : length w.code < 4294967296 = omega (arith, numbered_length d 0) in
          let running : fits_running names w ≡ true =
          both _ _ (both _ _ (both _ _ (both _ _ (both _ _ (both _ _
          (subst (λ ks. finds w 0 ks ≡ true) (kinds_before_zero s d []) (finds_ok 0 (some_code d begins)))
          (eqs _ _ len))
          (by_draft (fits_at s w) fits_here))
          (all_if (is_once w.code) w.points once_each))
          (eqs _ _ lines))
          (eqs _ _ (most_same (scan s d []))))
          (sames _ _ (take_length params slots)) in
          both _ _ (both _ _ (begins_pointed d 0 ∙ begins) running) (less _ _ size)

      -- and it is plain
      pub made_plain : (f : ℕ) → is_plain_function f w ≡ true
      made_plain f = both _ _ (by_draft plain_at plain_here) (by_draft (jumps_on w.code) jumps_here)
