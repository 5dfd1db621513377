use Rattle.lsl_image.specs.Bytes.{body_bytes, names_bytes, scripts_bytes, store_bytes, uuid_bytes}
use Rattle.lsl_image.specs.Object.{key_bytes}
use Rattle.lsl_image.proofs.WroteLemmas.{appended-four}
use Rattle.lsl_image.proofs.write_body.write_body.Goals as goal

pub returns-clause-ok : goal.returns-clause-ok
unfolding body_bytes
returns-clause-ok c =
    let o = c.args.parts.now in
    appended-four c.write_store.result c.args.out.now.items c.write_key.new.out.items c.write_names.new.out.items
    c.write_scripts.new.out.items c.write_store.new.out.items (uuid_bytes (key_bytes o.key)) (names_bytes o.names)
    (scripts_bytes 2 c.args.library.now o.scripts) (store_bytes 2 o.store) c.in_ok-write_key.ensures.ok
    c.in_ok-write_names.ensures.ok c.in_ok-write_scripts.ensures.ok c.write_store.ensures.ok
