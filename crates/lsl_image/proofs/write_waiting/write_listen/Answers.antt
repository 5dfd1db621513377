use Rattle.std.proofs.Common.{◌∙◌, ◌++◌, ap, rules, w32}
use Rattle.std.proofs.lemmas.Int.{to_z-of_z}
use Rattle.lsl_bytes.specs.Fields.{i32_bytes, text_bytes, u8_bytes}
use Rattle.lsl_image.specs.Bytes.{flag_of, listen_bytes}
use Rattle.lsl_image.proofs.WroteLemmas.{appended-six}
use Rattle.lsl_image.proofs.write_waiting.write_listen.Goals as goal

pub returns-clause-ok : goal.returns-clause-ok
unfolding listen_bytes
returns-clause-ok c =
    let l = c.args.listen.now in
    let number = c.in_ok-push_i32.ensures.ok
    ∙ ap (λ n. c.args.out.now.items ++ i32_bytes n) (to_z-of_z w32 l.number (search rules)) in
    let channel = c.in_ok-push_i32-2.ensures.ok
    ∙ ap (λ n. c.write_flag.new.out.items ++ i32_bytes n) (to_z-of_z w32 l.channel (search rules)) in
    appended-six c.push_text-3.result c.args.out.now.items c.push_i32.new.out.items c.write_flag.new.out.items
    c.push_i32-2.new.out.items c.push_text.new.out.items c.push_text-2.new.out.items c.push_text-3.new.out.items
    (i32_bytes l.number) (u8_bytes (flag_of l.active)) (i32_bytes l.channel) (text_bytes l.name) (text_bytes l.id)
    (text_bytes l.message) number c.in_ok-write_flag.ensures channel c.in_ok-push_text.ensures.ok
    c.in_ok-push_text-2.ensures.ok c.push_text-3.ensures.ok
