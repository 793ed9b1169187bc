use Rattle.pic_sim.proofs.running.outside_write.Goals as goal

pub returns-clause-outside : goal.returns-clause-outside
returns-clause-outside g c = c.requires.outside c.in_ok-register.register c.in_ok-register.ensures.found.1
