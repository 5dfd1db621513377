use Rattle.std.proofs.Common.{◌≡◌, ◌∙◌, ◌<◌, ◌∷◌, [], ◌++◌, map, ap}
use Rattle.std.specs.Str.{encode_utf8_all}
use Rattle.std.proofs.lemmas.Str.{encodes-chars}
use Rattle.lsl_value.specs.Atoms.{list_charge_of}
use Rattle.lsl_value.specs.declared.list.Atom.TheVariants.{Str}
use Rattle.lsl_pure.specs.Csv.{without_leading_spaces}
use Rattle.lsl_pure.specs.Spelling.{IsOverfull, spelled_string}
use Rattle.lsl_pure.proofs.ChargeLemmas.{IfErr-weaker, OnOk-map, overfull_push}
use Rattle.lsl_pure.proofs.TrimLemmas.{spaces-valid}
use Rattle.lsl_pure.proofs.csv.push_csv_piece.Goals as goal

pub copy_of-requires-clause-valid : goal.copy_of-requires-clause-valid
copy_of-requires-clause-valid c = spaces-valid c.args.piece.now c.behind_spaces.result.now c.requires.valid
    c.behind_spaces.ensures

pub returns-clause-ok : goal.returns-clause-ok
returns-clause-ok c =
    let valid = spaces-valid c.args.piece.now c.behind_spaces.result.now c.requires.valid c.behind_spaces.ensures in
    let same : spelled_string (Str c.in_ok-text.text) ∷ [] ≡ Str (without_leading_spaces c.args.piece.now) ∷ [] =
    ap (λ t. Str (encode_utf8_all t) ∷ []) c.in_ok-text.ensures
    ∙ ap (λ t. Str t ∷ []) (encodes-chars c.behind_spaces.result.now valid ∙ c.behind_spaces.ensures) in
    OnOk-map c.push_bounded.result c.push_bounded.new.items c.args.items.now (Str c.in_ok-text.text)
    (Str (without_leading_spaces c.args.piece.now) ∷ []) same c.push_bounded.ensures.ok

pub returns-clause-too_big : goal.returns-clause-too_big
returns-clause-too_big c =
    let valid = spaces-valid c.args.piece.now c.behind_spaces.result.now c.requires.valid c.behind_spaces.ensures in
    let same : spelled_string (Str c.in_ok-text.text) ∷ [] ≡ Str (without_leading_spaces c.args.piece.now) ∷ [] =
    ap (λ t. Str (encode_utf8_all t) ∷ []) c.in_ok-text.ensures
    ∙ ap (λ t. Str t ∷ []) (encodes-chars c.behind_spaces.result.now valid ∙ c.behind_spaces.ensures) in
    IfErr-weaker c.push_bounded.result (65536 < list_charge_of (c.args.items.now ++ Str c.in_ok-text.text ∷ []))
    (IsOverfull (map spelled_string c.args.items.now ++ Str (without_leading_spaces c.args.piece.now) ∷ []))
    (overfull_push c.args.items.now (Str c.in_ok-text.text) (Str (without_leading_spaces c.args.piece.now) ∷ [])
    same) c.push_bounded.ensures.too_big
