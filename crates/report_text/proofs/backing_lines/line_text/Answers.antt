use Rattle.std.proofs.Common.{◌≡◌, ◌∙◌, ◌+◌, ◌++◌, ◌<◌, ◌^◌, ap, rules}
use Rattle.std.specs.Prelude.{codes, string_bytes}
use Rattle.asset_bundles.specs.Totals.{total_value}
use Rattle.report_text.specs.Sums.{sum_text}
use Rattle.report_text.specs.Planned.{PlannedBacking}
use Rattle.report_text.specs.Sheets.{backing_written}
use Rattle.report_text.proofs.Planning.{behind}
use Rattle.report_text.proofs.Totals.{total_fits}
use Rattle.report_text.proofs.backing_lines.line_text.Goals as goal

pub returns : goal.returns
unfolding backing_written
returns c =
    let found = c.args.found in
    let held = total_value found.held in
    let owed = total_value found.standing + total_value found.coming in
    let held_high : found.held.high < 2 ^ 32 = search rules in
    let held_low : found.held.low < 2 ^ 128 = search rules in
    let start = string_bytes c.in_ok-text.text in
    let first = string_bytes c.push_str.new.self in
    let second = string_bytes c.push_sum.new.text in
    let third = string_bytes c.push_str-2.new.self in
    let fourth = string_bytes c.push_sum-2.new.text in
    let end = string_bytes c.push_str-3.new.self in
    let beginning = string_bytes c.entry.inside.beginning in
    let rest = sum_text held ++ (codes " owed " ++ (sum_text owed ++ codes "\n")) in
    let has_beginning : first ≡ start ++ beginning = c.in_ok-push_str.ensures.bytes ∙ ap (λ t. start ++ t) c.deref.ensures in
    let has_held : second ≡ first ++ sum_text held = c.in_ok-push_sum.ensures held (total_fits found.held held_high held_low) in
    let has_owed : third ≡ second ++ codes " owed " = c.in_ok-push_str-2.ensures.bytes in
    let has_sum : fourth ≡ third ++ sum_text owed = c.in_ok-push_sum-2.ensures owed c.sum-owed.ensures in
    let has_end : end ≡ fourth ++ codes "\n" = c.in_ok-push_str-3.ensures.bytes in
    let from_fourth = behind third fourth end (sum_text owed) (codes "\n") has_sum has_end in
    let from_third = behind second third end (codes " owed ") (sum_text owed ++ codes "\n") has_owed from_fourth in
    let from_second = behind first second end (sum_text held) (codes " owed " ++ (sum_text owed ++ codes "\n")) has_held from_third in
    behind start first end beginning rest has_beginning from_second
    ∙ ap (λ t. t ++ (beginning ++ rest)) c.in_ok-text.ensures.bytes
    ∙ ap (λ (e : PlannedBacking). e.beginning ++ rest) c.entry.view_is
