-- Lines that were written are cut again as they were.
use Rattle.std.proofs.Common.{◌≡◌, ℕ, ◌==◌, Bool, true, false, not, cond, ◌&&◌, List, [], ◌∷◌, ◌++◌, refl, sym, ap, ◌∙◌, append_assoc}
use Rattle.std.proofs.lemmas.Bool.{eqb-true}
use Rattle.std.specs.List.{flat_map, list_all}
use Rattle.lsl_lines.specs.Laws.{CutAgain}
use Rattle.lsl_lines.specs.Lines.{lines_of}
use Rattle.lsl_lines.specs.Reads.{is_in_line, without_return}
use Rattle.lsl_lines.proofs.LineLemmas.{line_cut}

-- no line feed, as a test
passes : (line : List ℕ) → ((front rest : List ℕ) → line ≡ front ++ 10 ∷ rest → ⊥) → list_all is_in_line line ≡ true
passes [] h = refl
passes (b ∷ line) h = go (b == 10) refl (passes line (λ front rest e. h (b ∷ front) rest (ap (λ l. b ∷ l) e)))
  where
    go : (feed : Bool) → (b == 10) ≡ feed → list_all is_in_line line ≡ true
        → (not feed && list_all is_in_line line) ≡ true
    go true f ih = absurd (h [] line (ap (λ c. c ∷ line) (eqb-true b 10 f)))
    go false f ih = ih

passes_return : (line : List ℕ) → list_all is_in_line line ≡ true → list_all is_in_line (line ++ 13 ∷ []) ≡ true
passes_return [] h = refl
passes_return (b ∷ line) h = go (not (b == 10)) h (passes_return line)
  where
    go : (t : Bool) → (t && list_all is_in_line line) ≡ true
        → (list_all is_in_line line ≡ true → list_all is_in_line (line ++ 13 ∷ []) ≡ true)
        → (t && list_all is_in_line (line ++ 13 ∷ [])) ≡ true
    go true e ih = ih e
    go false e ih = absurd (cc)

keeps : (line : List ℕ) → ((front : List ℕ) → line ≡ front ++ 13 ∷ [] → ⊥) → without_return line ≡ line
keeps [] h = refl
keeps (b ∷ []) h = go (b == 13) refl
  where
    go : (t : Bool) → (b == 13) ≡ t → cond t [] (b ∷ []) ≡ b ∷ []
    go true e = absurd (h [] (ap (λ c. c ∷ []) (eqb-true b 13 e)))
    go false e = refl
keeps (b ∷ c ∷ line) h = ap (λ l. b ∷ l) (keeps (c ∷ line) (λ front e. h (b ∷ front) (ap (λ l. b ∷ l) e)))

loses : (line : List ℕ) → without_return (line ++ 13 ∷ []) ≡ line
loses [] = refl
loses (b ∷ []) = refl
loses (b ∷ c ∷ line) = ap (λ l. b ∷ l) (loses (c ∷ line))

pub cut_at_feeds : CutAgain (10 ∷ [])
cut_at_feeds [] h = refl
cut_at_feeds (line ∷ lines) (h, more) =
    let rest = flat_map (λ (l : List ℕ). l ++ 10 ∷ []) lines in
    ap lines_of (append_assoc line (10 ∷ []) rest)
    ∙ line_cut line rest (passes line h.no_feed)
    ∙ ap (λ l. l ∷ lines_of rest) (keeps line h.no_return)
    ∙ ap (λ l. line ∷ l) (cut_at_feeds lines more)

pub cut_at_both : CutAgain (13 ∷ 10 ∷ [])
cut_at_both [] h = refl
cut_at_both (line ∷ lines) (h, more) =
    let rest = flat_map (λ (l : List ℕ). l ++ 13 ∷ 10 ∷ []) lines in
    ap lines_of (append_assoc line (13 ∷ 10 ∷ []) rest ∙ sym (append_assoc line (13 ∷ []) (10 ∷ rest)))
    ∙ line_cut (line ++ 13 ∷ []) rest (passes_return line (passes line h.no_feed))
    ∙ ap (λ l. l ∷ lines_of rest) (loses line)
    ∙ ap (λ l. line ∷ l) (cut_at_both lines more)
