use Rattle.std.proofs.Common.{◌∙◌, List, [], ℤ, ap, get_or, length}
use Rattle.std.proofs.Math.ListN.{length-set}
use Rattle.std.proofs.lemmas.List.{get_or-set_other, get_or-set_same}
use Rattle.lsl_region.specs.Hearing.{has_channel}
use Rattle.lsl_region.proofs.chat_index.ChannelTable.follow.Goals as goal

pub returns-clause-count : goal.returns-clause-count
returns-clause-count c =
    ap (λ (rows : List (List ℤ)). length rows) c.tell.ensures
    ∙ length-set c.args.self.now c.args.place c.channels_of.result

pub returns-clause-others : goal.returns-clause-others
returns-clause-others c = λ other away.
    ap (λ (rows : List (List ℤ)). get_or rows other []) c.tell.ensures
    ∙ get_or-set_other c.args.self.now c.args.place other c.channels_of.result [] away

pub returns-clause-told : goal.returns-clause-told
returns-clause-told c = λ channel.
    ap (λ (rows : List (List ℤ)). has_channel (get_or rows c.args.place []) channel) c.tell.ensures
    ∙ ap (λ (row : List ℤ). has_channel row channel)
    (get_or-set_same c.args.self.now c.args.place c.channels_of.result [] c.requires)
    ∙ c.channels_of.ensures.told channel
