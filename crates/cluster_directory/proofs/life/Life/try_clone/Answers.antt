use Rattle.cluster_directory.proofs.life.Life.try_clone.Goals as goal

pub returns-clause-lawful : goal.returns-clause-lawful
returns-clause-lawful c = record { node = c.in_ok-node.ensures.lawful; incarnation = c.incarnation-incarnation.type_inv }
