use Rattle.picc_cli.specs.CommandView.{names_of}
use Rattle.picc_cli.proofs.BuildEnds.{build_files, files_built, build_status, build_printed, build_told, build_complete}
use Rattle.picc_cli.proofs.building.build_files.Goals as goal

pub returns-clause-made : goal.returns-clause-made
returns-clause-made g c =
    build_files (names_of c.args.files) c.run-outcome.result _ _ _ _ _ _ _ _ _ c.run-outcome.ensures.files c.report.ensures.same_contents c.report.ensures.said

pub returns-clause-files : goal.returns-clause-files
returns-clause-files g c = files_built (names_of c.args.files) (g.H.Host.contents c.args.host.now) (g.H.Host.contents c.report.new.host) c.report.result (returns-clause-made g c)

pub returns-clause-status : goal.returns-clause-status
returns-clause-status g c = build_status (names_of c.args.files) c.run-outcome.result _ _ _ _ _ _ c.report.ensures.said

pub returns-clause-printed : goal.returns-clause-printed
returns-clause-printed g c =
    build_printed (names_of c.args.files) _ _ _ c.run-outcome.result _ _ _ _ _ _ c.run-outcome.ensures.sound
    c.run-outcome.ensures.same_kind c.run-outcome.ensures.same_printed c.report.ensures.said

pub returns-clause-told : goal.returns-clause-told
returns-clause-told g c =
    build_told (names_of c.args.files) c.run-outcome.result _ _ _ _ _ _ _ _ _ _ c.run-outcome.ensures.files c.report.ensures.same_contents
    c.run-outcome.ensures.same_printed c.report.ensures.said

pub returns-clause-complete : goal.returns-clause-complete
returns-clause-complete g c =
    build_complete (names_of c.args.files) _ _ c.run-outcome.result _ _ _ _ _ _ _ _ c.run-outcome.ensures.files c.run-outcome.ensures.cause
    c.run-outcome.ensures.same_kind c.report.ensures.said
