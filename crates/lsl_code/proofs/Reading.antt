-- A draft can be read from its code.
use Rattle.std.proofs.Common.{◌≡◌, ℕ, suc, ◌+◌, List, [], ◌∷◌, ◌++◌, length, option_map, refl, sym, ap, ◌∙◌, ap₂, arith, add-zero, append_assoc, length-append, slice_get, subst, false}
use Rattle.std.proofs.Math.Seq.{get_or-append_seam}
use Rattle.std.proofs.lemmas.List.{append-nil}
use Rattle.std.proofs.lemmas.Option.{slice_get-map}
use Rattle.lsl_code.specs.declared.instructions.Instr.{Instr}
use Rattle.lsl_code.specs.declared.instructions.Instr.TheVariants.{Tick, Call}
use Rattle.lsl_code.specs.Drafts.{pointed, next_point, line_before, numbered, lines_of, drafted, IsNumbered, carries_point}
use Rattle.lsl_code.specs.Wholes.{with_line}

one_more : (pre : List ℕ) (line : ℕ) (is : List Instr)
    → drafted ((pre ++ line ∷ []) ++ lines_of is) (numbered is (length (pre ++ line ∷ []))) ≡ is
    → drafted (pre ++ line ∷ lines_of is) (numbered is (suc (length pre))) ≡ is
one_more pre line is h =
    let n : suc (length pre) ≡ length (pre ++ line ∷ []) = omega (arith, length-append pre (line ∷ [])) in
    ap₂ (λ l k. drafted l (numbered is k)) (sym (append_assoc pre (line ∷ []) (lines_of is))) n ∙ h

reads : (pre : List ℕ) (d : List Instr) → drafted (pre ++ lines_of d) (numbered d (length pre)) ≡ d
reads pre [] = refl
reads pre (Tick line ∷ is) =
    ap₂ (λ l r. Tick l ∷ r) (get_or-append_seam pre line (lines_of is) 0)
    (one_more pre line is (reads (pre ++ line ∷ []) is))
reads pre (Call f line ∷ is) =
    ap₂ (λ l r. Call f l ∷ r) (get_or-append_seam pre line (lines_of is) 0)
    (one_more pre line is (reads (pre ++ line ∷ []) is))
reads pre (i ∷ is) = ap (λ r. i ∷ r) (reads pre is)

-- the code of a draft, with its lines, is the draft
pub draft_read : (d : List Instr) → drafted (lines_of d) (numbered d 0) ≡ d
draft_read d = reads [] d

-- and so at each place
pub draft_read_at : (d : List Instr) (place : ℕ)
    → option_map (with_line (lines_of d)) (slice_get (numbered d 0) place) ≡ slice_get d place
draft_read_at d place =
    sym (slice_get-map (with_line (lines_of d)) (numbered d 0) place) ∙ ap (λ l. slice_get l place) (draft_read d)

pub numbered_more : (d : List Instr) (i : Instr) (point : ℕ)
    → numbered (d ++ i ∷ []) point ≡ numbered d point ++ pointed i (point + length (lines_of d)) ∷ []
numbered_more [] i point = ap (λ k. pointed i k ∷ []) (sym (add-zero point))
numbered_more (x ∷ d) i point =
    ap (λ l. pointed x point ∷ l)
    (numbered_more d i (next_point x point) ∙ ap (λ k. numbered d (next_point x point) ++ pointed i k ∷ []) (counted x))
  where
    counted : (x : Instr) → next_point x point + length (lines_of d) ≡ point + length (line_before x (lines_of d))
    counted (Tick line) = omega arith
    counted (Call f line) = omega arith
    counted x = refl

pub lines_more : (d : List Instr) (i : Instr) → lines_of (d ++ i ∷ []) ≡ lines_of d ++ line_before i []
lines_more [] i = refl
lines_more (x ∷ d) i = ap (line_before x) (lines_more d i) ∙ front x
  where
    front : (x : Instr)
        → line_before x (lines_of d ++ line_before i []) ≡ line_before x (lines_of d) ++ line_before i []
    front (Tick line) = refl
    front (Call f line) = refl
    front x = refl

-- a draft, with an instruction more
pub record Grown (lines' : List ℕ) (code' d : List Instr) (i : Instr) : Type 0 where
  pub view : drafted lines' code' ≡ d ++ i ∷ []
  pub numbers : IsNumbered lines' code'

pub draft_grown : (lines lines' : List ℕ) (code code' : List Instr) (i : Instr) → IsNumbered lines code
    → code' ≡ code ++ pointed i (length lines) ∷ [] → lines' ≡ lines ++ line_before i []
    → Grown lines' code' (drafted lines code) i
draft_grown lines lines' code code' i numbers e f =
    let d = drafted lines code in
    let all = d ++ i ∷ [] in
    let z : length (lines_of d) ≡ 0 + length (lines_of d) = omega arith in
    let code_is : code' ≡ numbered all 0 =
    e ∙ ap₂ (λ a l. a ++ pointed i (length l) ∷ []) numbers.0 numbers.1
    ∙ ap (λ k. numbered d 0 ++ pointed i k ∷ []) z ∙ sym (numbered_more d i 0) in
    let lines_are : lines' ≡ lines_of all = f ∙ ap (λ l. l ++ line_before i []) numbers.1 ∙ sym (lines_more d i) in
    let view = ap₂ drafted lines_are code_is ∙ draft_read all in
    record {
      view = view;
      numbers = (code_is ∙ ap (λ l. numbered l 0) (sym view), lines_are ∙ ap lines_of (sym view));
    }

pub draft_same : (lines lines' : List ℕ) (code code' : List Instr) → IsNumbered lines code → code' ≡ code
    → lines' ≡ lines → IsNumbered lines' code'
draft_same lines lines' code code' numbers e f =
    subst (λ l. IsNumbered l code') (sym f) (subst (λ c. IsNumbered lines c) (sym e) numbers)

-- an instruction without a point is as it is
pub not_pointed : (i : Instr) (p : ℕ) → carries_point i ≡ false → pointed i p ≡ i
not_pointed (Tick line) p e = absurd cc
not_pointed (Call f line) p e = absurd cc
not_pointed i p e = refl

pub no_line : (i : Instr) → carries_point i ≡ false → line_before i [] ≡ []
no_line (Tick line) e = absurd cc
no_line (Call f line) e = absurd cc
no_line i e = refl

-- a draft grows by an instruction without a point
pub draft_grown_plain : (lines : List ℕ) (code code' : List Instr) (i : Instr) → carries_point i ≡ false
    → IsNumbered lines code → code' ≡ code ++ i ∷ [] → Grown lines code' (drafted lines code) i
draft_grown_plain lines code code' i bare numbers e =
    draft_grown lines lines code code' i numbers
    (e ∙ ap (λ x. code ++ x ∷ []) (sym (not_pointed i (length lines) bare)))
    (sym (ap (λ l. lines ++ l) (no_line i bare) ∙ append-nil lines))

-- a draft grows by a tick, and by a call
pub tick_grown : (lines lines' : List ℕ) (code code' : List Instr) (line point : ℕ) → point ≡ length lines
    → IsNumbered lines code → code' ≡ code ++ Tick point ∷ [] → lines' ≡ lines ++ line ∷ []
    → Grown lines' code' (drafted lines code) (Tick line)
tick_grown lines lines' code code' line point is numbers e f =
    draft_grown lines lines' code code' (Tick line) numbers (e ∙ ap (λ p. code ++ Tick p ∷ []) is) f

pub call_grown : (lines lines' : List ℕ) (code code' : List Instr) (callee line point : ℕ) → point ≡ length lines
    → IsNumbered lines code → code' ≡ code ++ Call callee point ∷ [] → lines' ≡ lines ++ line ∷ []
    → Grown lines' code' (drafted lines code) (Call callee line)
call_grown lines lines' code code' callee line point is numbers e f =
    draft_grown lines lines' code code' (Call callee line) numbers (e ∙ ap (λ p. code ++ Call callee p ∷ []) is) f
