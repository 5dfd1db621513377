-- Drafts and code with changed targets of jumps.
use Rattle.std.proofs.Common.{◌≡◌, ℕ, zero, suc, ◌<◌, ◌≤◌, List, [], ◌∷◌, ◌++◌, length, refl, sym, ap, ◌∙◌, ap₂, arith, get_or, slice_set}
use Rattle.lsl_code.specs.declared.instructions.Instr.{Instr}
use Rattle.lsl_code.specs.declared.instructions.Instr.TheVariants.{Tick, Call, Jump, JumpIf, JumpIfNot}
use Rattle.lsl_code.specs.Drafts.{pointed, next_point, line_before, numbered, lines_of, drafted, IsNumbered}
use Rattle.lsl_code.specs.Targets.{targeted, retargeted}
use Rattle.lsl_code.specs.Wholes.{with_line}

-- past the end nothing changes
pub retargeted-past : (code : List Instr) (place target : ℕ) → length code ≤ place → retargeted code place target ≡ code
retargeted-past [] place target le = refl
retargeted-past (i ∷ is) zero target le = absurd (omega arith)
retargeted-past (i ∷ is) (suc place) target le = ap (λ l. i ∷ l) (retargeted-past is place target (omega arith))

-- as a write
pub retargeted-set : (code : List Instr) (place target : ℕ) (i : Instr) → place < length code
    → i ≡ get_or code place i
    → slice_set code place (targeted i target) ≡ retargeted code place target
retargeted-set [] place target i lt is = absurd (omega arith)
retargeted-set (x ∷ code) zero target i lt is = ap (λ y. targeted y target ∷ code) is
retargeted-set (x ∷ code) (suc place) target i lt is =
    ap (λ l. x ∷ l) (retargeted-set code place target i (omega arith) is)

-- after other code, and before it
pub retargeted-seam : (before : List Instr) (i : Instr) (behind : List Instr) (target : ℕ)
    → retargeted (before ++ i ∷ behind) (length before) target ≡ before ++ targeted i target ∷ behind
retargeted-seam [] i behind target = refl
retargeted-seam (x ∷ before) i behind target = ap (λ l. x ∷ l) (retargeted-seam before i behind target)

line_stays : (lines : List ℕ) (i : Instr) (target : ℕ)
    → with_line lines (targeted i target) ≡ targeted (with_line lines i) target
line_stays lines (Tick point) target = refl
line_stays lines (Call f point) target = refl
line_stays lines (Jump to) target = refl
line_stays lines (JumpIf to) target = refl
line_stays lines (JumpIfNot to) target = refl
line_stays lines i target = refl

pub drafted-retargeted : (lines : List ℕ) (code : List Instr) (place target : ℕ)
    → drafted lines (retargeted code place target) ≡ retargeted (drafted lines code) place target
drafted-retargeted lines [] place target = refl
drafted-retargeted lines (i ∷ is) zero target = ap (λ x. x ∷ drafted lines is) (line_stays lines i target)
drafted-retargeted lines (i ∷ is) (suc place) target =
    ap (λ l. with_line lines i ∷ l) (drafted-retargeted lines is place target)

point_stays : (i : Instr) (point target : ℕ) → pointed (targeted i target) point ≡ targeted (pointed i point) target
point_stays (Tick line) point target = refl
point_stays (Call f line) point target = refl
point_stays (Jump to) point target = refl
point_stays (JumpIf to) point target = refl
point_stays (JumpIfNot to) point target = refl
point_stays i point target = refl

next_stays : (i : Instr) (point target : ℕ) → next_point (targeted i target) point ≡ next_point i point
next_stays (Jump to) point target = refl
next_stays (JumpIf to) point target = refl
next_stays (JumpIfNot to) point target = refl
next_stays i point target = refl

pub numbered-retargeted : (d : List Instr) (place target point : ℕ)
    → numbered (retargeted d place target) point ≡ retargeted (numbered d point) place target
numbered-retargeted [] place target point = refl
numbered-retargeted (i ∷ is) zero target point =
    ap₂ (λ x p. x ∷ numbered is p) (point_stays i point target) (next_stays i point target)
numbered-retargeted (i ∷ is) (suc place) target point =
    ap (λ l. pointed i point ∷ l) (numbered-retargeted is place target (next_point i point))

own_line_stays : (i : Instr) (target : ℕ) (more : List ℕ) → line_before (targeted i target) more ≡ line_before i more
own_line_stays (Jump to) target more = refl
own_line_stays (JumpIf to) target more = refl
own_line_stays (JumpIfNot to) target more = refl
own_line_stays i target more = refl

pub lines_of-retargeted : (d : List Instr) (place target : ℕ) → lines_of (retargeted d place target) ≡ lines_of d
lines_of-retargeted [] place target = refl
lines_of-retargeted (i ∷ is) zero target = own_line_stays i target (lines_of is)
lines_of-retargeted (i ∷ is) (suc place) target = ap (line_before i) (lines_of-retargeted is place target)

-- points stay as they are
pub is_numbered-retargeted : (lines : List ℕ) (code : List Instr) (place target : ℕ) → IsNumbered lines code
    → IsNumbered lines (retargeted code place target)
is_numbered-retargeted lines code place target numbers =
    let d = drafted lines code in
    let view = drafted-retargeted lines code place target in (
      ap (λ c. retargeted c place target) numbers.0 ∙ sym (numbered-retargeted d place target 0)
          ∙ ap (λ l. numbered l 0) (sym view),
      numbers.1 ∙ sym (lines_of-retargeted d place target) ∙ ap lines_of (sym view),
    )
