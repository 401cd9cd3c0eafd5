use Rattle.block_passes.proofs.id_index.PooledKeysCodedRows.put_code.Goals as goal

pub id_key-requires-clause-in_range : goal.id_key-requires-clause-in_range
id_key-requires-clause-in_range c = let ready = c.requires.ready.0 c.args.at c.requires.at in rw c.row.ensures ready.0

pub id_key-requires-clause-readable : goal.id_key-requires-clause-readable
id_key-requires-clause-readable c = let ready = c.requires.ready.0 c.args.at c.requires.at in rw c.row.ensures ready.1
