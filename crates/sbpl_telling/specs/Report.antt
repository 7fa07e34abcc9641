-- What the text of a section is, and the line on a plan that is blocked, handed on to be unfolded.
unfoldable pub use Rattle.sbpl_promises.specs.Blocked.{line_of}
unfoldable pub use Rattle.sbpl_promises.specs.sbpl_report.Report.{pass_text, path_text, place_text, section_text, step_text}
