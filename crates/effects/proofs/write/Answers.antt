-- `effects::write` meets its contract: the command's words are lent as a part, and the hart's number is put before. Assumes nothing.
use Rattle.effects.proofs.EffectLaws.{record_written}
use Rattle.effects.proofs.write.Goals as goal

pub returns : goal.returns
returns c =
    record_written c.args.hart c.args.row.now c.requires c.to_words.ensures
