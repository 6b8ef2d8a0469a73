-- What holds of a file that `play_file`, or the program `play`, has played: its contract alone (`PlayedWhole`) gives the turns, and with them all that is
-- proved of the code's plays. The commands played are the file, up to a last row; each accepted 03 prints the key's evaluations in signed form, each accepted
-- 06 signs with the first mask that passes, and each accepted 07 prints the paper's verdict; every accepted signature hides its key; each key has its life;
-- and the rule in force at each command is that of the last accepted 0B before it.
-- Assumes nothing.
use mathlib.Core.List.{List}
use Prim.Native.Nat.{ℕ}
use Rattle.session_rules.specs.Play.{Session, opened}
use Rattle.session_rules.specs.Plays.{Event, no_material}
use Rattle.session_rules.specs.FilePlayed.{LastRow}
use Rattle.session_rules.specs.HeldIsRead.{none_available}
use Rattle.session_rules.specs.FirstPassing.{EachSignsByFirst}
use Rattle.session_rules.specs.Verdicts.{EachVerdict}
use Rattle.session_rules.specs.PrintedEvaluations.{EachEvaluations}
use Rattle.session_rules.specs.KeysHidden.{KeysHidden}
use Rattle.session_rules.specs.KeyLife.{KeyLife}
use Rattle.session_rules.specs.RuleInForce.{RuleInForce}
use Rattle.session.specs.Turns.{turn_events}
use Rattle.session.specs.WholeFile.{PlayedWhole}
use Rattle.session.proofs.FileOfPlays.{plays_are_the_file}
use Rattle.session.proofs.FirstPassingOfPlays.{first_passing_signs_in_plays}
use Rattle.session.proofs.VerdictsOfPlays.{verdicts_by_the_rule_in_plays}
use Rattle.session.proofs.PrintedEvaluationsOfPlays.{evaluations_printed_in_plays}
use Rattle.session.proofs.HidingOfPlays.{hiding_of_plays}
use Rattle.session.proofs.KeyLifeOfPlays.{key_life_in_plays}
use Rattle.session.proofs.RuleOfPlays.{rule_in_force_in_plays}

module _ (file : List ℕ) (s : Session) (w : PlayedWhole file s) where
  -- the commands that were played
  abbrev pub whole_events : List Event
  whole_events = let p = w.played in turn_events opened file p.turns

  pub whole_file_read : LastRow file whole_events
  whole_file_read =
      let p = w.played in
      (plays_are_the_file file p.turns p.allowed).ends (rw p.last w.ended)

  pub whole_file_evaluations : EachEvaluations no_material none_available whole_events
  whole_file_evaluations = let p = w.played in evaluations_printed_in_plays file p.turns p.allowed

  pub whole_file_signs_by_first : EachSignsByFirst no_material whole_events
  whole_file_signs_by_first = let p = w.played in first_passing_signs_in_plays file p.turns p.allowed

  pub whole_file_verdicts : EachVerdict no_material none_available whole_events
  whole_file_verdicts = let p = w.played in verdicts_by_the_rule_in_plays file p.turns p.allowed

  pub whole_file_hides : KeysHidden whole_events
  whole_file_hides = let p = w.played in hiding_of_plays file p.turns p.allowed

  pub whole_file_key_life : KeyLife whole_events s.held
  whole_file_key_life = let p = w.played in rw p.last at (key_life_in_plays file p.turns p.allowed)

  pub whole_file_rule : RuleInForce whole_events s.held
  whole_file_rule = let p = w.played in rw p.last at (rule_in_force_in_plays file p.turns p.allowed)
