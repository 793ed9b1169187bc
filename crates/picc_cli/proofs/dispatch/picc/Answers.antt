use Rattle.picc_cli.specs.Command.{form_of, words_of}
use Rattle.picc_cli.proofs.Forms.{complete_by}
use Rattle.picc_cli.proofs.Limits.{command_within}
use Rattle.picc_cli.proofs.NothingDone.{no_files, no_made, no_print, no_told, no_end, not_simulated}
use Rattle.picc_cli.proofs.TracedWhole.{not_traced}
use Rattle.picc_cli.proofs.dispatch.picc.Goals as goal

pub run-requires-clause-few : goal.run-requires-clause-few
run-requires-clause-few g c = command_within c.in-Ok.command (words_of c.args.words.now) c.in-Ok.ensures

pub returns-in-Err-clause-files : goal.returns-in-Err-clause-files
returns-in-Err-clause-files g c = no_files (form_of (words_of c.args.words.now)) (g.H.Host.contents c.args.host.now)

pub returns-in-Err-clause-made : goal.returns-in-Err-clause-made
returns-in-Err-clause-made g c = no_made (form_of (words_of c.args.words.now)) (g.H.Host.contents c.args.host.now) (g.H.Host.printed c.args.host.now)

pub returns-in-Err-clause-printed : goal.returns-in-Err-clause-printed
returns-in-Err-clause-printed g c = no_print (form_of (words_of c.args.words.now)) (g.H.Host.kind c.args.host.now) (g.H.Host.contents c.args.host.now) (g.H.Host.printed c.args.host.now)

pub returns-in-Err-clause-told : goal.returns-in-Err-clause-told
returns-in-Err-clause-told g c =
    no_told (form_of (words_of c.args.words.now)) (g.H.Host.contents c.args.host.now) (g.H.Host.contents c.args.host.now) (g.H.Host.printed c.args.host.now)

pub returns-in-Err-clause-simulated : goal.returns-in-Err-clause-simulated
returns-in-Err-clause-simulated g c = not_simulated (form_of (words_of c.args.words.now)) (g.H.Host.contents c.args.host.now) _ (g.H.Host.printed c.args.host.now)

pub returns-in-Err-clause-complete : goal.returns-in-Err-clause-complete
returns-in-Err-clause-complete g c =
    no_end (form_of (words_of c.args.words.now)) (g.H.Host.kind c.args.host.now) (g.H.Host.faults c.args.host.now) (g.H.Host.faults c.args.host.now)
    (g.H.Host.contents c.args.host.now)

pub returns-in-Ok-clause-complete : goal.returns-in-Ok-clause-complete
returns-in-Ok-clause-complete g c =
    complete_by (form_of (words_of c.args.words.now)) _ c.in-Ok.ensures (g.H.Host.kind c.args.host.now) (g.H.Host.faults c.args.host.now)
    (g.H.Host.faults c.run.new.host) (g.H.Host.contents c.args.host.now) c.run.result c.run.ensures.complete

pub returns-in-Err-clause-traced : goal.returns-in-Err-clause-traced
returns-in-Err-clause-traced g c = not_traced (form_of (words_of c.args.words.now)) (g.H.Host.contents c.args.host.now) (g.H.Host.printed c.args.host.now)
