-- The points of a draft: each is its instruction's, and each occurs once.
use Rattle.std.proofs.Common.{◌≡◌, ℕ, zero, suc, ◌+◌, ◌<◌, List, [], ◌∷◌, ◌++◌, length, reverse, Some, None, cond, refl, sym, ap, ap₂, ◌∙◌, subst, arith, slice_get, append_assoc, length-append}
use Rattle.std.specs.Prelude.{nat_eq}
use Rattle.lsl_value.specs.declared.tagged.Kind.{Kind}
use Rattle.lsl_code.specs.declared.instructions.Instr.{Instr}
use Rattle.lsl_code.specs.declared.instructions.Instr.TheVariants.{Tick, Call}
use Rattle.lsl_code.specs.declared.functions.Point.{Point}
use Rattle.lsl_code.specs.Drafts.{next_point, numbered, lines_of, next, point_before, maps}
use Rattle.lsl_code.specs.Effects.{waiting}
use Rattle.lsl_code.specs.Fits.{count_of}
use Rattle.lsl_code.specs.Kinds.{Scope}
use Rattle.lsl_code.proofs.Tested.{eq_self, differs, differs'}
use Rattle.lsl_code.proofs.Numbering.{free_point}
use Rattle.lsl_code.proofs.Scans.{kinds_before}

module _ (s : Scope) where
  seam : (pre : List Point) (pt : Point) (more : List Point) → slice_get (pre ++ pt ∷ more) (length pre) ≡ Some pt
  seam [] pt more = refl
  seam (x ∷ pre) pt more = seam pre pt more

  -- the instruction's point is one of these
  abbrev pub PointAt : Instr → ℕ → List Kind → List Point → Type 0
  PointAt (Tick line) p ks points = slice_get points p ≡ Some (record { kinds = s.slots ++ reverse ks; calls = None })
  PointAt (Call f line) p ks points =
      slice_get points p ≡ Some
      (record { kinds = s.slots ++ reverse (waiting (slice_get s.functions f) ks); calls = Some f })
  PointAt i p ks points = Unit {0}

  map_first : (i : Instr) (ks : List Kind) (pre more : List Point)
      → PointAt i (length pre) ks (pre ++ point_before s i ks more)
  map_first (Tick line) ks pre more = seam pre _ more
  map_first (Call f line) ks pre more = seam pre _ more
  map_first i ks pre more = tt

  -- the points before those after the instruction
  abbrev over : Instr → List Kind → List Point → List Point
  over i ks pre = pre ++ point_before s i ks []

  over_same : (i : Instr) (ks : List Kind) (pre more : List Point)
      → over i ks pre ++ more ≡ pre ++ point_before s i ks more
  over_same (Tick line) ks pre more = append_assoc pre _ more
  over_same (Call f line) ks pre more = append_assoc pre _ more
  over_same i ks pre more = append_assoc pre [] more

  over_length : (i : Instr) (ks : List Kind) (pre : List Point) → length (over i ks pre) ≡ next_point i (length pre)
  over_length (Tick line) ks pre = omega (arith, length-append pre (point_before s (Tick line) ks []))
  over_length (Call f line) ks pre = omega (arith, length-append pre (point_before s (Call f line) ks []))
  over_length i ks pre = omega (arith, length-append pre [])

  maps_from : (d : List Instr) (ks : List Kind) (pre : List Point) (k : ℕ) (i : Instr) → slice_get d k ≡ Some i
      → PointAt i (free_point d (length pre) k) (kinds_before s d ks k) (pre ++ maps s d ks)
  maps_from [] ks pre k i e = absurd cc
  maps_from (x ∷ d) ks pre zero i e =
      let same : x ≡ i = cc in
      subst (λ y. PointAt y (length pre) ks (pre ++ point_before s x ks (maps s d (next s x ks)))) same
      (map_first x ks pre (maps s d (next s x ks)))
  maps_from (x ∷ d) ks pre (suc k) i e =
      let r = maps_from d (next s x ks) (over x ks pre) k i e in
      subst (λ l. PointAt i (free_point d (next_point x (length pre)) k) (kinds_before s d (next s x ks) k) l)
      (over_same x ks pre (maps s d (next s x ks)))
      (subst (λ n. PointAt i (free_point d n k) (kinds_before s d (next s x ks) k)
      (over x ks pre ++ maps s d (next s x ks))) (over_length x ks pre) r)

  pub maps_at : (d : List Instr) (ks : List Kind) (k : ℕ) (i : Instr) → slice_get d k ≡ Some i
      → PointAt i (free_point d 0 k) (kinds_before s d ks k) (maps s d ks)
  maps_at d ks k i e = maps_from d ks [] k i e

  -- each point once
  none_before : (d : List Instr) (n p : ℕ) → p < n → count_of p (numbered d n) ≡ 0
  none_before [] n p lt = refl
  none_before (Tick line ∷ d) n p lt =
      ap₂ (λ b c. cond b (suc c) c) (differs p n lt) (none_before d (suc n) p (omega arith))
  none_before (Call f line ∷ d) n p lt =
      ap₂ (λ b c. cond b (suc c) c) (differs p n lt) (none_before d (suc n) p (omega arith))
  none_before (i ∷ d) n p lt = none_before d n p lt

  later : (d : List Instr) (n p : ℕ) → count_of (suc n + p) (numbered d (suc n)) ≡ 1
      → cond (nat_eq (n + suc p) n) (suc (count_of (n + suc p) (numbered d (suc n))))
      (count_of (n + suc p) (numbered d (suc n))) ≡ 1
  later d n p e =
      let z : suc n + p ≡ n + suc p = omega arith in
      let lt : n < n + suc p = omega arith in
      ap₂ (λ b q. cond b (suc (count_of q (numbered d (suc n)))) (count_of q (numbered d (suc n))))
      (differs' n (n + suc p) lt) (sym z)
      ∙ e

  first : (d : List Instr) (n : ℕ)
      → cond (nat_eq (n + 0) n) (suc (count_of (n + 0) (numbered d (suc n))))
      (count_of (n + 0) (numbered d (suc n))) ≡ 1
  first d n =
      let z : n ≡ n + 0 = omega arith in
      let lt : n < suc n = omega arith in
      ap (λ q. cond (nat_eq q n) (suc (count_of q (numbered d (suc n)))) (count_of q (numbered d (suc n))))
      (sym z)
      ∙ ap₂ (λ b c. cond b (suc c) c) (eq_self n) (none_before d (suc n) n lt)

  pub once : (d : List Instr) (ks : List Kind) (n p : ℕ) → p < length (maps s d ks)
      → count_of (n + p) (numbered d n) ≡ 1
  once [] ks n p lt = absurd (omega arith)
  once (Tick line ∷ d) ks n zero lt = first d n
  once (Tick line ∷ d) ks n (suc p) lt = later d n p (once d (next s (Tick line) ks) (suc n) p (omega arith))
  once (Call f line ∷ d) ks n zero lt = first d n
  once (Call f line ∷ d) ks n (suc p) lt = later d n p (once d (next s (Call f line) ks) (suc n) p (omega arith))
  once (i ∷ d) ks n p lt = once d (next s i ks) n p lt

  -- as many as lines
  pub points_lined : (d : List Instr) (ks : List Kind) → length (lines_of d) ≡ length (maps s d ks)
  points_lined [] ks = refl
  points_lined (Tick line ∷ d) ks = ap suc (points_lined d (next s (Tick line) ks))
  points_lined (Call f line ∷ d) ks = ap suc (points_lined d (next s (Call f line) ks))
  points_lined (i ∷ d) ks = points_lined d (next s i ks)
