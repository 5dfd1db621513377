-- The stacks of a function's code are placed before its woven code.
use Rattle.std.proofs.Common.{◌≡◌, ◌∙◌, refl, sym, ap, ℕ, zero, suc, ◌+◌, List, [], ◌∷◌, ◌++◌, length, map, drop, Option, Some, None, option_map, append_assoc, slice_get}
use Rattle.std.specs.Prelude.{replicate}
use Rattle.std.proofs.lemmas.Option.{slice_get-map}
use Rattle.lsl_value.specs.declared.tagged.Kind.{Kind}
use Rattle.lsl_compact.specs.Stacks.{Placed, placing_of}
use Rattle.lsl_code.specs.declared.instructions.Instr.{Instr}
use Rattle.lsl_code.specs.declared.instructions.Instr.TheVariants.{Call, Tick}
use Rattle.lsl_code.specs.Bodies.{Body}
use Rattle.lsl_code.specs.ModeStacks.{flat, nones}
use Rattle.lsl_weave.specs.Layout.{kinds_or_none, main_stacks, stack_before}
use Rattle.lsl_weave.proofs.Emitting.{flat_done, flat_more}

pub nones_are : (n : ℕ) → replicate n None ≡ nones n
nones_are zero = refl
nones_are (suc n) = ap (λ (l : List (Option (List Kind))). None ∷ l) (nones_are n)

or_none : (o : Option (List Kind)) → kinds_or_none (option_map Some o) ≡ o
or_none None = refl
or_none (Some ks) = refl

-- the body has the stacks that are given
abbrev pub Gives : Body → Placed → Type 0
Gives b p = b.stacks ≡ map Some p.given

before : (b : Body) (p : Placed) (k : ℕ) → Gives b p → slice_get p.given k ≡ stack_before b k
before b p k gives =
    sym (or_none (slice_get p.given k)) ∙ ap kinds_or_none (sym (slice_get-map Some p.given k))
    ∙ ap (λ (l : List (Option (List Kind))). kinds_or_none (slice_get l k)) (sym gives)

pub one_placed : (b : Body) (old new : Placed) (k : ℕ) → Gives b old
    → new ≡ placing_of old.given (old.placed ++ slice_get old.given k ∷ [])
    → new ≡ placing_of old.given (old.placed ++ stack_before b k ∷ [])
one_placed b old new k gives is =
    is ∙ ap (λ (o : Option (List Kind)). placing_of old.given (old.placed ++ o ∷ [])) (before b old k gives)

pub two_placed : (b : Body) (old mid new : Placed) (k : ℕ) → Gives b old
    → mid ≡ placing_of old.given (old.placed ++ slice_get old.given k ∷ [])
    → new ≡ placing_of mid.given (mid.placed ++ slice_get mid.given (k + 1) ∷ [])
    → new ≡ placing_of old.given (old.placed ++ stack_before b k ∷ stack_before b (k + 1) ∷ [])
two_placed b old mid new k gives first second =
    second
    ∙ ap (λ (p : Placed). placing_of p.given (p.placed ++ slice_get p.given (k + 1) ∷ []))
    (one_placed b old mid k gives first)
    ∙ ap (λ (o : Option (List Kind)). placing_of old.given ((old.placed ++ stack_before b k ∷ []) ++ o ∷ []))
    (before b old (k + 1) gives)
    ∙ ap (placing_of old.given) (append_assoc old.placed (stack_before b k ∷ []) (stack_before b (k + 1) ∷ []))

-- what has no test has one stack
pub one_stack : (b : Body) (k : ℕ) (i : Instr) → ((p : ℕ) → i ≡ Tick p → ⊥) → ((f p : ℕ) → i ≡ Call f p → ⊥)
    → main_stacks b k i ≡ stack_before b k ∷ []
one_stack b k (Tick p) tick call = absurd (tick p refl)
one_stack b k (Call f p) tick call = absurd (call f p refl)
one_stack b k i tick call = refl

-- one instruction more, and the end
abbrev pub HasPlaced : Body → List Instr → Placed → Placed → ℕ → Type 0
HasPlaced b plain start p i =
    (p.given ≡ start.given)
    × (p.placed ++ flat (main_stacks b) i (drop i plain) ≡ start.placed ++ flat (main_stacks b) 0 plain)

pub placed_more : (b : Body) (plain : List Instr) (start old new : Placed) (i : ℕ) (x : Instr)
    → Gives b start → slice_get plain i ≡ Some x → HasPlaced b plain start old i
    → (Gives b old → new ≡ placing_of old.given (old.placed ++ main_stacks b i x))
    → HasPlaced b plain start new (i + 1)
placed_more b plain start old new i x gives there inv one =
    let is = one (gives ∙ ap (map Some) (sym inv.0)) in (
      ap (λ (p : Placed). p.given) is ∙ inv.0,
      flat_more (main_stacks b) plain i x old.placed new.placed _ there (ap (λ (p : Placed). p.placed) is) inv.1,
    )

pub placed_all : (b : Body) (plain : List Instr) (start new : Placed) (n : ℕ) → n ≡ length plain
    → HasPlaced b plain start new n → new ≡ placing_of start.given (start.placed ++ flat (main_stacks b) 0 plain)
placed_all b plain start new n long inv =
    ap (λ (g : List (List Kind)). placing_of g new.placed) inv.0
    ∙ ap (placing_of start.given) (flat_done (main_stacks b) plain n new.placed _ long inv.1)

-- the test at the start, the code, and the blocks
pub running_made : (b : Body) (stacks : List (List Kind)) (plain : List Instr) (count : ℕ) → b.stacks ≡ map Some stacks
    → (first second third : Placed) (running : List (Option (List Kind)))
    → first ≡ placing_of stacks [] → second ≡ placing_of first.given (first.placed ++ Some [] ∷ [])
    → (Gives b second → third ≡ placing_of second.given (second.placed ++ flat (main_stacks b) 0 plain))
    → running ≡ third.placed ++ replicate count None
    → running ≡ Some [] ∷ (flat (main_stacks b) 0 plain ++ nones count)
running_made b stacks plain count gives first second third running a e all f =
    let begun : second ≡ placing_of stacks (Some [] ∷ []) =
    e ∙ ap (λ (p : Placed). placing_of p.given (p.placed ++ Some [] ∷ [])) a in
    let given = gives ∙ sym (ap (λ (p : Placed). map Some p.given) begun) in
    let placed : third.placed ≡ Some [] ∷ flat (main_stacks b) 0 plain =
    ap (λ (p : Placed). p.placed) (all given)
    ∙ ap (λ (p : Placed). p.placed ++ flat (main_stacks b) 0 plain) begun in
    f ∙ ap (λ (l : List (Option (List Kind))). l ++ replicate count None) placed
    ∙ ap (λ (l : List (Option (List Kind))). Some [] ∷ (flat (main_stacks b) 0 plain ++ l)) (nones_are count)
