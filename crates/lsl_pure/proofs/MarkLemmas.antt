-- The marks of a list's elements.
use Rattle.std.proofs.Common.{◌≡◌, ◌∙◌, ℕ, ◌<◌, ◌≤◌, Bool, true, false, cond, ◌==◌, nat_lt, List, [], ◌∷◌, ◌++◌, length, map, take, sym, ap, refl, arith, length-append}
use Rattle.std.specs.List.{All, filter}
use Rattle.std.specs.Str.{encode_utf8_all}
use Rattle.std.proofs.lemmas.Bool.{cond-true, cond-false}
use Rattle.std.proofs.lemmas.Bool.Decides.{nat_tests}
use Rattle.std.proofs.lemmas.List.{append-nil, append_assoc, length-map, length-take, map-append}
use Rattle.std.proofs.lemmas.List.Elements.{All-append, All-weaker, filter-append, filter_passes}
use Rattle.std.proofs.lemmas.List.Sums.{count_by-le-length, length-filter}
use Rattle.lsl_value.specs.declared.list.Atom.{Atom}
use Rattle.lsl_value.specs.Atoms.{text_of_atom}
use Rattle.lsl_pure.specs.Parsing.{marks_among, marks_from, marks_of}
use Rattle.lsl_pure.specs.declared.marks.Mark.{Mark}
use Rattle.lsl_pure.proofs.TrimLemmas.{empty-encodes}

nonempty : (text : List ℕ) (b : Bool) → (length text == 0) ≡ b → nat_lt 0 (length text) ≡ cond b false true
nonempty [] true empty = refl
nonempty [] false empty = cc
nonempty (c ∷ cs) true empty = grind (arith, nat_tests)
nonempty (c ∷ cs) false empty = grind (arith, nat_tests)

marks_among-append : (spacer : Bool) (xs ys : List Atom)
    → marks_among spacer (xs ++ ys) ≡ marks_among spacer xs ++ marks_among spacer ys
marks_among-append spacer xs ys =
    ap (filter (λ (m : Mark). nat_lt 0 (length m.text)))
    (map-append (λ (a : Atom). let m : Mark = record { text = text_of_atom a; spacer = spacer } in m) xs ys)
    ∙ filter-append (λ (m : Mark). nat_lt 0 (length m.text))
    (map (λ (a : Atom). let m : Mark = record { text = text_of_atom a; spacer = spacer } in m) xs)
    (map (λ (a : Atom). let m : Mark = record { text = text_of_atom a; spacer = spacer } in m) ys)

-- an element with an empty text is none
pub marks_among-empty : (spacer : Bool) (marks old : List Mark) (atoms : List Atom) (a : Atom) (text : List ℕ)
    → text ≡ text_of_atom a → (length (encode_utf8_all text) == 0) ≡ true
    → marks ≡ old ++ marks_among spacer atoms → marks ≡ old ++ marks_among spacer (atoms ++ a ∷ [])
marks_among-empty spacer marks old atoms a text is empty same =
    let none : nat_lt 0 (length (text_of_atom a)) ≡ false =
    nonempty (text_of_atom a) true (ap (λ t. length t == 0) (sym is) ∙ sym (empty-encodes text) ∙ empty) in
    same ∙ ap (λ ms. old ++ ms) (sym (append-nil (marks_among spacer atoms))
    ∙ ap (λ ms. marks_among spacer atoms ++ ms) (sym (cond-false _ _ _ none))
    ∙ sym (marks_among-append spacer atoms (a ∷ [])))

-- any other is the last one
pub marks_among-push : (spacer : Bool) (new marks old : List Mark) (atoms : List Atom) (a : Atom)
    (text : List ℕ) → text ≡ text_of_atom a → (length (encode_utf8_all text) == 0) ≡ false
    → marks ≡ old ++ marks_among spacer atoms → new ≡ marks ++ (record { text = text; spacer = spacer }) ∷ []
    → new ≡ old ++ marks_among spacer (atoms ++ a ∷ [])
marks_among-push spacer new marks old atoms a text is empty same pushed =
    let some : nat_lt 0 (length (text_of_atom a)) ≡ true =
    nonempty (text_of_atom a) false (ap (λ t. length t == 0) (sym is) ∙ sym (empty-encodes text) ∙ empty) in
    let mark : List ℕ → List Mark = λ t. record { text = t; spacer = spacer } ∷ [] in
    pushed ∙ ap (λ ms. ms ++ mark text) same ∙ ap (λ t. (old ++ marks_among spacer atoms) ++ mark t) is
    ∙ append_assoc old (marks_among spacer atoms) (mark (text_of_atom a))
    ∙ ap (λ ms. old ++ ms) (ap (λ ms. marks_among spacer atoms ++ ms) (sym (cond-true _ _ _ some))
    ∙ sym (marks_among-append spacer atoms (a ∷ [])))

has-text : (m : Mark) → nat_lt 0 (length m.text) ≡ true → 0 < length m.text
has-text m some = grind (arith, nat_tests)

marks_among-have : (spacer : Bool) (atoms : List Atom)
    → All (λ (m : Mark). 0 < length m.text) (marks_among spacer atoms)
marks_among-have spacer atoms =
    All-weaker (λ (m : Mark). nat_lt 0 (length m.text) ≡ true) (λ (m : Mark). 0 < length m.text) has-text
    (marks_among spacer atoms) (filter_passes (λ (m : Mark). nat_lt 0 (length m.text))
    (map (λ (a : Atom). let m : Mark = record { text = text_of_atom a; spacer = spacer } in m) atoms))

-- each mark has a character
pub marks_of-have : (separators spacers : List Atom)
    → All (λ (m : Mark). 0 < length m.text) (marks_of separators spacers)
marks_of-have separators spacers =
    All-append (λ (m : Mark). 0 < length m.text) (marks_from false separators) (marks_from true spacers)
    (marks_among-have false (take 8 separators)) (marks_among-have true (take 8 spacers))

marks_from-few : (spacer : Bool) (atoms : List Atom) → length (marks_from spacer atoms) ≤ 8
marks_from-few spacer atoms =
    let mark : Atom → Mark = λ (a : Atom). record { text = text_of_atom a; spacer = spacer } in
    let passes : Mark → Bool = λ (m : Mark). nat_lt 0 (length m.text) in
    let made = map mark (take 8 atoms) in
    omega (
      arith,
      length-filter passes made,
      count_by-le-length passes made,
      length-map (take 8 atoms) mark,
      length-take 8 atoms,
    )

-- at most eight separators and eight spacers are used
pub marks_of-few : (separators spacers : List Atom) → length (marks_of separators spacers) ≤ 16
marks_of-few separators spacers =
    omega (
      arith,
      length-append (marks_from false separators) (marks_from true spacers),
      marks_from-few false separators,
      marks_from-few true spacers,
    )
