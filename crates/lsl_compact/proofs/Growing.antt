-- Stacks that grow by links.
use Rattle.std.proofs.Common.{◌≡◌, ◌∙◌, refl, sym, ap, subst, arith, ℕ, zero, suc, ◌+◌, ◌-◌, ◌<◌, ◌≤◌, List, [], ◌∷◌, ◌++◌, Some, length, reverse, get_or, Option}
use Rattle.std.specs.Prelude.{slice_get}
use Rattle.std.proofs.Math.Seq.{get_or-append_seam}
use Rattle.std.proofs.lemmas.List.{get_or_append_left, length-append}
use Rattle.std.proofs.lemmas.Option.{slice_get-get_or}
use Rattle.lsl_value.specs.declared.tagged.Kind.{Kind}
use Rattle.lsl_compact.specs.declared.stacks.Link.{Link}
use Rattle.lsl_compact.specs.Stacks.{AreLinks, AreLinksFrom, AreTops, Noted, grown, listed, noted_of, placed_at, placed_in, stack_at, stack_of, stacks_of}

-- there is a stack more for each link
pub grown_length : (stacks : List (List Kind)) (links : List Link)
    → length (grown stacks links) ≡ length stacks + length links
grown_length stacks [] = omega arith
grown_length stacks (l ∷ ls) =
    let x : List Kind = l.kind ∷ stack_at stacks l.below in
    let a = grown_length (stacks ++ x ∷ []) ls in
    let b = length-append stacks (x ∷ []) in
    omega arith

pub grown_keeps : (stacks : List (List Kind)) (links : List Link) (n : ℕ) → n < length stacks
    → stack_at (grown stacks links) n ≡ stack_at stacks n
grown_keeps stacks [] n lt = refl
grown_keeps stacks (l ∷ ls) n lt =
    let x : List Kind = l.kind ∷ stack_at stacks l.below in
    let b = length-append stacks (x ∷ []) in
    grown_keeps (stacks ++ x ∷ []) ls n (omega arith) ∙ get_or_append_left stacks (x ∷ []) [] n lt

pub grown_more : (stacks : List (List Kind)) (ls more : List Link)
    → grown stacks (ls ++ more) ≡ grown (grown stacks ls) more
grown_more stacks [] more = refl
grown_more stacks (l ∷ ls) more = grown_more (stacks ++ (l.kind ∷ stack_at stacks l.below) ∷ []) ls more

-- the stack of a link is its kind on the stack below it
pub grown_at : (stacks : List (List Kind)) (links : List Link) (k : ℕ) (link : Link) → slice_get links k ≡ Some link
    → link.below < length stacks + k
    → stack_at (grown stacks links) (length stacks + k) ≡ link.kind ∷ stack_at (grown stacks links) link.below
grown_at stacks [] k link is below = absurd cc
grown_at stacks (l ∷ ls) zero link is below =
    let same : l ≡ link = cc in
    let x : List Kind = link.kind ∷ stack_at stacks link.below in
    let n = length-append stacks (x ∷ []) in
    let there : length stacks + 0 ≡ length stacks = omega arith in
    let kept = grown_keeps (stacks ++ x ∷ []) ls link.below (omega arith)
    ∙ get_or_append_left stacks (x ∷ []) [] link.below (omega arith) in
    subst (λ (m : Link). stack_at (grown stacks (m ∷ ls)) (length stacks + 0)
    ≡ link.kind ∷ stack_at (grown stacks (m ∷ ls)) link.below) (sym same)
    (grown_keeps (stacks ++ x ∷ []) ls (length stacks + 0) (omega arith)
    ∙ ap (λ (i : ℕ). stack_at (stacks ++ x ∷ []) i) there ∙ get_or-append_seam stacks x [] []
    ∙ ap (λ (s : List Kind). link.kind ∷ s) (sym kept))
grown_at stacks (l ∷ ls) (suc k) link is below =
    let x : List Kind = l.kind ∷ stack_at stacks l.below in
    let n = length-append stacks (x ∷ []) in
    let at : length (stacks ++ x ∷ []) + k ≡ length stacks + suc k = omega arith in
    ap (λ (i : ℕ). stack_at (grown (stacks ++ x ∷ []) ls) i) (sym at)
    ∙ grown_at (stacks ++ x ∷ []) ls k link is (omega arith)

pub stack_empty : (links : List Link) → stack_of links 0 ≡ []
stack_empty links = grown_keeps ([] ∷ []) links 0 (omega arith)

pub stack_kept : (links more : List Link) (n : ℕ) → n ≤ length links → stack_of (links ++ more) n ≡ stack_of links n
stack_kept links more n le =
    let all = grown_length ([] ∷ []) links in
    ap (λ (s : List (List Kind)). stack_at s n) (grown_more ([] ∷ []) links more)
    ∙ grown_keeps (stacks_of links) more n (omega arith)

pub stack_pushed : (links : List Link) (link : Link) (n : ℕ) → n ≡ length links + 1
    → stack_of (links ++ link ∷ []) n ≡ link.kind ∷ stack_of links link.below
stack_pushed links link n is =
    let all = grown_length ([] ∷ []) links in
    let at : n ≡ length (stacks_of links) = omega arith in
    ap (λ (s : List (List Kind)). stack_at s n) (grown_more ([] ∷ []) links (link ∷ []))
    ∙ ap (λ (i : ℕ). stack_at (stacks_of links ++ (link.kind ∷ stack_of links link.below) ∷ []) i) at
    ∙ get_or-append_seam (stacks_of links) (link.kind ∷ stack_of links link.below) [] []

pub listed_kept : (links more : List Link) (tops : List ℕ) → AreTops links tops
    → listed (links ++ more) tops ≡ listed links tops
listed_kept links more [] all = refl
listed_kept links more (t ∷ ts) all =
    ap (λ (k : List Kind). reverse k ∷ listed (links ++ more) ts) (stack_kept links more t all.0)
    ∙ ap (λ (l : List (List Kind)). reverse (stack_of links t) ∷ l) (listed_kept links more ts all.1)

pub tops_kept : (links more : List Link) (tops : List ℕ) → AreTops links tops → AreTops (links ++ more) tops
tops_kept links more [] all = tt
tops_kept links more (t ∷ ts) all =
    let n = length-append links more in
    let le = all.0 in
    (omega arith, tops_kept links more ts all.1)

pub tops_more : (links : List Link) (tops : List ℕ) (top : ℕ) → AreTops links tops → top ≤ length links
    → AreTops links (tops ++ top ∷ [])
tops_more links [] top all le = (le, tt)
tops_more links (t ∷ ts) top all le = (all.0, tops_more links ts top all.1 le)

pub listed_more : (links : List Link) (tops : List ℕ) (top : ℕ)
    → listed links (tops ++ top ∷ []) ≡ listed links tops ++ reverse (stack_of links top) ∷ []
listed_more links [] top = refl
listed_more links (t ∷ ts) top =
    ap (λ (l : List (List Kind)). reverse (stack_of links t) ∷ l) (listed_more links ts top)

-- a link more, on an earlier stack
pub links_more : (n : ℕ) (links : List Link) (link : Link) → AreLinksFrom n links → link.below ≤ n + length links
    → AreLinksFrom n (links ++ link ∷ [])
links_more n [] link are le = (omega arith, tt)
links_more n (l ∷ ls) link are le = (are.0, links_more (suc n) ls link are.1 (omega arith))

pub links_at : (n : ℕ) (links : List Link) (k : ℕ) (link : Link) → AreLinksFrom n links
    → slice_get links k ≡ Some link → link.below ≤ n + k
links_at n [] k link are is = absurd cc
links_at n (l ∷ ls) zero link are is =
    let same : l ≡ link = cc in
    let le = are.0 in
    subst (λ (m : Link). m.below ≤ n + 0) same (omega arith)
links_at n (l ∷ ls) (suc k) link are is =
    let le = links_at (suc n) ls k link are.1 is in
    omega arith

pub stack_popped : (links : List Link) (top k : ℕ) (link : Link) → AreLinks links → slice_get links k ≡ Some link
    → top ≡ k + 1 → stack_of links top ≡ link.kind ∷ stack_of links link.below
stack_popped links top k link are is at =
    let le = links_at 0 links k link are is in
    let n : top ≡ 1 + k = omega arith in
    ap (λ (i : ℕ). stack_of links i) n ∙ grown_at ([] ∷ []) links k link is (omega arith)

-- the link of a top is on an earlier stack
pub top_link : (links : List Link) (top : ℕ) (d : Link) → AreLinks links → (top ≡ 0 → ⊥) → top ≤ length links
    → (stack_of links top ≡ (get_or links (top - 1) d).kind ∷ stack_of links (get_or links (top - 1) d).below)
    × ((get_or links (top - 1) d).below < top)
top_link links top d are some le =
    let lt : top - 1 < length links = omega arith in
    let is = slice_get-get_or links (top - 1) d lt in
    let below = links_at 0 links (top - 1) (get_or links (top - 1) d) are is in
    let at : top ≡ (top - 1) + 1 = omega arith in
    (stack_popped links top (top - 1) (get_or links (top - 1) d) are is at, omega arith)

pub top_is : (links : List Link) (top : ℕ) (link : Link) → AreLinks links → (top ≡ 0 → ⊥) → top ≤ length links
    → link ≡ get_or links (top - 1) link
    → (stack_of links top ≡ link.kind ∷ stack_of links link.below) × (link.below < top)
top_is links top link are some le is =
    subst (λ (m : Link). (stack_of links top ≡ m.kind ∷ stack_of links m.below) × (m.below < top)) (sym is)
    (top_link links top link are some le)

abbrev shown : List Link → ℕ → List ℕ → Noted
shown links top tops = noted_of (stack_of links top) (listed links tops)

module _ (links more : List Link) (top n : ℕ) (link : Link) (tops : List ℕ) (is : more ≡ links ++ link ∷ [])
    (below : link.below ≡ top) (at : n ≡ length links + 1) (all : AreTops links tops) where
  pub pushed_stack : stack_of more n ≡ link.kind ∷ stack_of links top
  pushed_stack =
      ap (λ (m : List Link). stack_of m n) is ∙ stack_pushed links link n at
      ∙ ap (λ (b : ℕ). link.kind ∷ stack_of links b) below

  pub pushed_view : (old : Noted) → shown links top tops ≡ old
      → shown more n tops ≡ noted_of (link.kind ∷ old.kinds) old.noted
  pushed_view old view =
      ap (λ (k : List Kind). noted_of k (listed more tops)) pushed_stack
      ∙ ap (λ (m : List Link). noted_of (link.kind ∷ stack_of links top) (listed m tops)) is
      ∙ ap (λ (l : List (List Kind)). noted_of (link.kind ∷ stack_of links top) l)
      (listed_kept links (link ∷ []) tops all)
      ∙ ap (λ (o : Noted). noted_of (link.kind ∷ o.kinds) o.noted) view

  pub pushed_holds : (h : ℕ) → AreLinks links → top ≤ length links → h ≡ length (stack_of links top)
      → h ≤ length links
      → AreLinks more × (n ≤ length more) × AreTops more tops × (h + 1 ≡ length (stack_of more n))
      × (h + 1 ≤ length more)
  pushed_holds h are le high low =
      let a = ap {A = List Link} length is in
      let b = length-append links (link ∷ []) in
      let c = ap {A = List Kind} length pushed_stack in (
        subst AreLinks (sym is) (links_more 0 links link are (omega arith)),
        omega arith,
        subst (λ (m : List Link). AreTops m tops) (sym is) (tops_kept links (link ∷ []) tops all),
        omega arith,
        omega arith,
      )

pub placed_more : (links : List Link) (tops : List (Option ℕ)) (top : Option ℕ)
    → placed_in links (tops ++ top ∷ []) ≡ placed_in links tops ++ placed_at links top ∷ []
placed_more links [] top = refl
placed_more links (t ∷ ts) top =
    ap (λ (l : List (Option (List Kind))). placed_at links t ∷ l) (placed_more links ts top)

pub placed_given : (links : List Link) (tops : List ℕ) (number : ℕ)
    → placed_at links (slice_get tops number) ≡ slice_get (listed links tops) number
placed_given links [] number = refl
placed_given links (t ∷ ts) zero = refl
placed_given links (t ∷ ts) (suc n) = placed_given links ts n
