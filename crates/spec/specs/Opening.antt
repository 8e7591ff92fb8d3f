-- For the modules of computed cases: what opens every definition of document 01, so that they compute. It says
-- nothing of its own.
use Rattle.spec.specs.Lists.{from, up_to, any, every, count, keep, first, sum_of, flat, as_count, sum, greatest, lowest, is_in}
use Rattle.spec.specs.Answer.{◌>>=◌, ◌>>◌, refuse◌at◌when◌, refuse◌at?◌, found, returned}
use Rattle.spec.specs.Classes.{alike}
use Rattle.spec.specs.Text.{named, in_digits, class_of, digit_of, class_and_digit, is_a, on_first, raw_lines_of, but_return, without_return, lines_of, grow, pieces, is_only, is_dash, needless_zero, is_number, value_from, number_in, by_lines, digit_byte, digits, field_bytes, fields_bytes, line_with}
use Rattle.spec.specs.Forms.{has_letter, fields_of, is_of, are_of, is_line, is_list_line, event_at, number_at, numbers_of}
use Rattle.spec.specs.Net.{is_arc, joined, weight_of, takes, makes, inhibits, reads, read_and_consumed, with_place, with_transition, with_arc, add_place, add_transition, add_arc, add_line, empty_net, lacking, whole, net_of, read_net}
use Rattle.spec.specs.NetText.{declaration_line, net_bytes, declare, declare_all}
use Rattle.spec.specs.Step.{taken, made, needed, short, inhibited, play, marking_after}
use Rattle.spec.specs.Record.{bench, no_condition, names, is_none, slot_of, is_at, marked, due, event_field, event_line, condition_line, mark_line_of, mark_line, record_bytes}
use Rattle.spec.specs.Order.{pair_of, condition_pair, mark_pair_of, mark_pair, pairs, is_pair, reach, has_path, path_by, is_strictly_before, is_not_later}
use Rattle.spec.specs.Process.{initial_in, consumed_in, produced_in, read_in, wrong_end, is_below}
use Rattle.spec.specs.Building.{no_event, initial_of, start, outputs_of, made_by, make_all, is_free, consumed_by, consume, consume_all, inputs_of, take_all, in_step, play_step, play_steps, run_of, is_earlier, mark_at, held_in, lowest_held, read_by, read_mark, mark_if, marks_at, marks_of, marks_due, record_of, record_for, is_step_line, log_line, play_log, built, build}
use Rattle.spec.specs.Checking.{is_empty, with_event, with_condition, with_mark, enter_event, enter_condition, enter_mark, condition_of, mark_in, enter_line, empty_record, wrong_initial, wrong_arcs_at, wrong_arcs, agree, wrong_mark_at, wrong_marks, wrong_readings_at, wrong_readings, wrongly_marked, wrong_kind_at, wrong_kind, before_itself, obeys, read_record, accepts, related, table_at, table_bytes, ordered, independent, independent_pairs, checked_of, check_within, check}
use Rattle.spec.specs.Arrangement.{times, index}
use Rattle.spec.specs.Arranging.{prolonged, longest, levels, line_count, on_line, arranged_lines, group_line, arrangement_bytes, arranged_of, arrange}
use Rattle.spec.specs.Replaying.{is_group_line, repeats, late, breaks, groups_line, missing, read_arrangement, count_after, fired_by, row_at, replay_row, replayed_of, replay}
use Rattle.spec.specs.LineParts.{parts_from, line_at, chosen_text, refused_line, part_of}
use Rattle.spec.specs.Printing.{is_parting, with_net_line, parted, input_of, summary, printed, program}
use Rattle.spec.specs.Buffer.{over, leaves, build_leaves, check_leaves, replay_leaves, arrange_leaves, program_leaves}
use Rattle.std.specs.Float.Ieee.{round, to_bits}
use Rattle.spec.specs.Rounding.{nearest, float_of, nearest_difference}
use Rattle.spec.specs.Energy.{is_figures, figure_at, is_capacitor_line, is_pulse_line, is_load_line, draw_in, ratings_in, no_energy, capacitor_line, draw_line, energy_line, read_energy, draw_of, usable_of, left_of, energies_of, energy, as_energy}
use Rattle.spec.specs.Runs.{marking_at, as_steps, event_lines, step_line, log_bytes}
use Rattle.spec.specs.Quoted.{ascii, as_text, unended, same, refused, given, passes, at_most, zeros_but}

unfoldable open_lists : Unit {0}
unfolding from up_to any every count keep first sum_of flat as_count sum greatest lowest is_in
open_lists = tt

unfoldable open_answer : Unit {0}
unfolding ◌>>=◌ ◌>>◌ refuse◌at◌when◌ refuse◌at?◌ found returned
open_answer = tt

unfoldable open_text : Unit {0}
unfolding alike named in_digits class_of digit_of class_and_digit is_a on_first raw_lines_of but_return without_return lines_of grow pieces is_only is_dash needless_zero is_number value_from number_in by_lines digit_byte digits field_bytes fields_bytes line_with
open_text = tt

unfoldable open_forms : Unit {0}
unfolding has_letter fields_of is_of are_of is_line is_list_line event_at number_at numbers_of
open_forms = tt

unfoldable open_net : Unit {0}
unfolding is_arc joined weight_of takes makes inhibits reads read_and_consumed with_place with_transition with_arc add_place add_transition add_arc add_line empty_net lacking whole net_of read_net
open_net = tt

unfoldable open_net_text : Unit {0}
unfolding declaration_line net_bytes declare declare_all
open_net_text = tt

unfoldable open_step : Unit {0}
unfolding taken made needed short inhibited play marking_after
open_step = tt

unfoldable open_record : Unit {0}
unfolding bench no_condition names is_none slot_of is_at marked due event_field event_line condition_line mark_line_of mark_line record_bytes
open_record = tt

unfoldable open_order : Unit {0}
unfolding pair_of condition_pair mark_pair_of mark_pair pairs is_pair reach has_path path_by is_strictly_before is_not_later
open_order = tt

unfoldable open_process : Unit {0}
unfolding initial_in consumed_in produced_in read_in wrong_end is_below
open_process = tt

unfoldable open_building : Unit {0}
unfolding no_event initial_of start outputs_of made_by make_all is_free consumed_by consume consume_all inputs_of take_all in_step play_step play_steps run_of is_earlier mark_at held_in lowest_held read_by read_mark mark_if marks_at marks_of marks_due record_of record_for is_step_line log_line play_log built build
open_building = tt

unfoldable open_checking : Unit {0}
unfolding is_empty with_event with_condition with_mark enter_event enter_condition enter_mark condition_of mark_in enter_line empty_record wrong_initial wrong_arcs_at wrong_arcs agree wrong_mark_at wrong_marks wrong_readings_at wrong_readings wrongly_marked wrong_kind_at wrong_kind before_itself obeys read_record accepts related table_at table_bytes ordered independent independent_pairs checked_of check_within check
open_checking = tt

unfoldable open_arrangement : Unit {0}
unfolding times index
open_arrangement = tt

unfoldable open_arranging : Unit {0}
unfolding prolonged longest levels line_count on_line arranged_lines group_line arrangement_bytes arranged_of arrange
open_arranging = tt

unfoldable open_replaying : Unit {0}
unfolding is_group_line repeats late breaks groups_line missing read_arrangement count_after fired_by row_at replay_row replayed_of replay
open_replaying = tt

unfoldable open_line_parts : Unit {0}
unfolding parts_from line_at chosen_text refused_line part_of
open_line_parts = tt

unfoldable open_printing : Unit {0}
unfolding is_parting with_net_line parted input_of summary printed program
open_printing = tt

unfoldable open_buffer : Unit {0}
unfolding over leaves build_leaves check_leaves replay_leaves arrange_leaves program_leaves
open_buffer = tt

unfoldable open_energy : Unit {0}
unfolding round to_bits nearest float_of nearest_difference is_figures figure_at is_capacitor_line is_pulse_line is_load_line draw_in ratings_in no_energy capacitor_line draw_line energy_line read_energy draw_of usable_of left_of energies_of energy as_energy
open_energy = tt

unfoldable open_runs : Unit {0}
unfolding marking_at as_steps event_lines step_line log_bytes
open_runs = tt

unfoldable open_quoted : Unit {0}
unfolding ascii as_text unended same refused given passes at_most zeros_but
open_quoted = tt

unfoldable pub open_definitions : Unit {0}
unfolding open_lists open_answer open_text open_forms open_net open_net_text open_step open_record open_order open_process open_building open_checking open_arrangement open_arranging open_replaying open_line_parts open_printing open_buffer open_energy open_runs open_quoted
open_definitions = tt
