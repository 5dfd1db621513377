-- Stacks of kinds that share what they begin with.
use Rattle.std.specs.Prelude.{ℕ, suc, ◌≤◌, List, [], ◌∷◌, ◌++◌, Option, Some, None, length, map, reverse, slice_index_or}
use Rattle.lsl_value.specs.declared.tagged.Kind.{Kind}
use Rattle.lsl_compact.specs.declared.stacks.Link.{Link}

-- a stack, the top first, and the stacks that were noted, from the first pushed
pub record Noted : Type 0 where
  pub kinds : List Kind
  pub noted : List (List Kind)

abbrev pub noted_of : List Kind → List (List Kind) → Noted
noted_of kinds noted = record { kinds = kinds; noted = noted }

-- the stack of this number, the top first
abbrev pub stack_at : List (List Kind) → ℕ → List Kind
stack_at stacks n = slice_index_or stacks n []

-- a stack more for each link: its kind on the stack below it
abbrev pub grown : List (List Kind) → List Link → List (List Kind)
grown stacks [] = stacks
grown stacks (link ∷ links) = grown (stacks ++ (link.kind ∷ stack_at stacks link.below) ∷ []) links

-- the stacks of these links: the first has no kind
abbrev pub stacks_of : List Link → List (List Kind)
stacks_of links = grown ([] ∷ []) links

-- the stack with this top, the top first
abbrev pub stack_of : List Link → ℕ → List Kind
stack_of links top = stack_at (stacks_of links) top

-- the stacks with these tops, from the first pushed
abbrev pub listed : List Link → List ℕ → List (List Kind)
listed links tops = map (λ top. reverse (stack_of links top)) tops

-- each link is on an earlier stack; the first has this number
abbrev pub AreLinksFrom : ℕ → List Link → Type 0
AreLinksFrom n [] = Unit {0}
AreLinksFrom n (link ∷ links) = (link.below ≤ n) × AreLinksFrom (suc n) links

abbrev pub AreLinks : List Link → Type 0
AreLinks links = AreLinksFrom 0 links

-- the stacks with these tops are there
abbrev pub AreTops : List Link → List ℕ → Type 0
AreTops links [] = Unit {0}
AreTops links (top ∷ tops) = (top ≤ length links) × AreTops links tops

-- the stack with this top, if there is one, from the first pushed
abbrev pub placed_at : List Link → Option ℕ → Option (List Kind)
placed_at links None = None
placed_at links (Some top) = Some (reverse (stack_of links top))

abbrev pub placed_in : List Link → List (Option ℕ) → List (Option (List Kind))
placed_in links tops = map (placed_at links) tops

-- stacks that are given, and those of them that are placed, or none
pub record Placed : Type 0 where
  pub given : List (List Kind)
  pub placed : List (Option (List Kind))

abbrev pub placing_of : List (List Kind) → List (Option (List Kind)) → Placed
placing_of given placed = record { given = given; placed = placed }
