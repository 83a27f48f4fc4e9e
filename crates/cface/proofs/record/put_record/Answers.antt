use Rattle.cface.proofs.record.put_record.Goals as goal

pub returns : goal.returns
returns c = rw c.from-words.ensures at c.bytes_of.ensures
