use Rattle.std.proofs.Common.{◌≡◌, ◌∙◌, ◌<◌, ◌∷◌, [], ◌++◌, cond, map, ap, sym}
use Rattle.std.specs.Str.{encode_utf8_all}
use Rattle.std.proofs.lemmas.Str.{encodes-chars}
use Rattle.lsl_value.specs.Atoms.{list_charge_of}
use Rattle.lsl_value.specs.declared.list.Atom.TheVariants.{Str}
use Rattle.lsl_pure.specs.Parsing.{piece_elements}
use Rattle.lsl_pure.specs.Spelling.{IsOverfull, spelled_string}
use Rattle.lsl_pure.proofs.ChargeLemmas.{IfErr-weaker, OnOk-map, overfull_push}
use Rattle.lsl_pure.proofs.parsing.push_piece.Goals as goal

pub returns-clause-ok : goal.returns-clause-ok
returns-clause-ok c =
    let same : spelled_string (Str c.in_ok-text.text) ∷ [] ≡ piece_elements c.args.keep_nulls c.args.piece.now =
    ap (λ t. Str (encode_utf8_all t) ∷ []) c.in_ok-text.ensures
    ∙ ap (λ t. Str t ∷ []) (encodes-chars c.args.piece.now c.requires.valid)
    ∙ sym (ap (λ b. cond b (Str c.args.piece.now ∷ []) []) (sym c.is_kept.ensures ∙ c.if-not-is_kept.false)) in
    OnOk-map c.push_bounded.result c.push_bounded.new.items c.args.items.now (Str c.in_ok-text.text)
    (piece_elements c.args.keep_nulls c.args.piece.now) same c.push_bounded.ensures.ok

pub returns-clause-too_big : goal.returns-clause-too_big
returns-clause-too_big c =
    let same : spelled_string (Str c.in_ok-text.text) ∷ [] ≡ piece_elements c.args.keep_nulls c.args.piece.now =
    ap (λ t. Str (encode_utf8_all t) ∷ []) c.in_ok-text.ensures
    ∙ ap (λ t. Str t ∷ []) (encodes-chars c.args.piece.now c.requires.valid)
    ∙ sym (ap (λ b. cond b (Str c.args.piece.now ∷ []) []) (sym c.is_kept.ensures ∙ c.if-not-is_kept.false)) in
    IfErr-weaker c.push_bounded.result (65536 < list_charge_of (c.args.items.now ++ Str c.in_ok-text.text ∷ []))
    (IsOverfull (map spelled_string c.args.items.now ++ piece_elements c.args.keep_nulls c.args.piece.now))
    (overfull_push c.args.items.now (Str c.in_ok-text.text) (piece_elements c.args.keep_nulls c.args.piece.now)
    same) c.push_bounded.ensures.too_big
