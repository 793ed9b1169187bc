use Rattle.program_code.proofs.Selecting.{selects_are_counted}
use Rattle.program_code.proofs.StatedWords.{blocks_are_bare, blocks_keep_within, blocks_keep_there, words_are_stated}
use Rattle.program_code.proofs.Copied.{called_have_copies}
use Rattle.program_code.proofs.Placed.{programs_keep_sizes}
use Rattle.program_code.proofs.Routines.{routines_keep_there}
use Rattle.program_code.proofs.Starting.{start_keeps_there}
use Rattle.program_code.proofs.Nearby.{placed_stay_near}
use Rattle.program_code.proofs.There.{placed_have_addresses, placed_stand_inside}
use Rattle.program_code.proofs.word_bounds.words_are_bounded.Goals as goal

pub returns-clause-counted : goal.returns-clause-counted
returns-clause-counted c = selects_are_counted

pub returns-clause-sizes : goal.returns-clause-sizes
returns-clause-sizes c = programs_keep_sizes

pub returns-clause-bare : goal.returns-clause-bare
returns-clause-bare c = blocks_are_bare

pub returns-clause-within : goal.returns-clause-within
returns-clause-within c = blocks_keep_within

pub returns-clause-stated : goal.returns-clause-stated
returns-clause-stated c = words_are_stated

pub returns-clause-called : goal.returns-clause-called
returns-clause-called c = called_have_copies

pub returns-clause-there : goal.returns-clause-there
returns-clause-there c = blocks_keep_there

pub returns-clause-routines : goal.returns-clause-routines
returns-clause-routines c = routines_keep_there

pub returns-clause-start : goal.returns-clause-start
returns-clause-start c = start_keeps_there

pub returns-clause-places : goal.returns-clause-places
returns-clause-places c = placed_have_addresses

pub returns-clause-inside : goal.returns-clause-inside
returns-clause-inside c = placed_stand_inside

pub returns-clause-near : goal.returns-clause-near
returns-clause-near c = placed_stay_near
