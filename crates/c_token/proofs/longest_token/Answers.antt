use Rattle.c_token.proofs.Longest.{longest, none}
use Rattle.c_token.proofs.LongestTokens.{each}
use Rattle.c_token.proofs.Gaps.{cut}
use Rattle.c_token.proofs.longest_token.Goals as goal

pub returns-clause-found : goal.returns-clause-found
returns-clause-found c = longest

pub returns-clause-none : goal.returns-clause-none
returns-clause-none c = none

pub returns-clause-each : goal.returns-clause-each
returns-clause-each c = each

pub returns-clause-gaps : goal.returns-clause-gaps
returns-clause-gaps c = cut
