use Rattle.std.proofs.Common.{List, ℕ, Bor, ◌++◌, ◌∷◌, [], map, ap, ap₂, sym, ◌∙◌}
use Rattle.std.proofs.lemmas.List.{map-append}
use Rattle.std.specs.Str.{encode_utf8_all}
use Rattle.lsl_top.proofs.Zips.{take-map-more}
use Rattle.lsl_top.proofs.reading.file_names.Goals as goal

pub loop-file-preserved : goal.loop-file-preserved
loop-file-preserved c =
    let name : Bor (List ℕ) → List ℕ = λ n. n.now in
    ap (map name) c.in_ok-push.ensures.items
    ∙ map-append name c.loop-file.names.items (c.as_str.result ∷ [])
    ∙ ap₂ (λ (xs : List (List ℕ)) (x : List ℕ). xs ++ x ∷ []) c.loop-file.invariant c.as_str.ensures.value
    ∙ sym (take-map-more encode_utf8_all c.args.files.now c.loop-file.file-index c.file-item.result c.file-item.result
    c.loop-file-test.true c.file-item.is)
