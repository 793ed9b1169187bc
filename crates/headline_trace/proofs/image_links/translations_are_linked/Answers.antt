use Rattle.headline_trace.proofs.Linking.{translations_lowerable, translations_linked, translations_follow}
use Rattle.headline_trace.proofs.image_links.translations_are_linked.Goals as goal

pub returns-clause-lowerable : goal.returns-clause-lowerable
returns-clause-lowerable c = translations_lowerable

pub returns-clause-linked : goal.returns-clause-linked
returns-clause-linked c = translations_linked

pub returns-clause-follow : goal.returns-clause-follow
returns-clause-follow c = translations_follow
