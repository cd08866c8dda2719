use Rattle.std.proofs.Common.{◌≡◌, ◌∙◌, ◌++◌, ◌<◌, ◌^◌, ap, rules}
use Rattle.std.specs.Prelude.{codes, string_bytes}
use Rattle.asset_bundles.specs.Totals.{total_value}
use Rattle.report_text.specs.Sums.{sum_text}
use Rattle.report_text.specs.Planned.{PlannedSupply}
use Rattle.report_text.specs.Sheets.{supply_written}
use Rattle.report_text.proofs.Planning.{behind}
use Rattle.report_text.proofs.Totals.{total_fits}
use Rattle.report_text.proofs.supply_lines.line_text.Goals as goal

pub returns : goal.returns
unfolding supply_written
returns c =
    let found = c.args.found in
    let home = total_value found.home in
    let flight = total_value found.flight in
    let burned = total_value found.burned in
    let home_high : found.home.high < 2 ^ 32 = search rules in
    let home_low : found.home.low < 2 ^ 128 = search rules in
    let flight_high : found.flight.high < 2 ^ 32 = search rules in
    let flight_low : found.flight.low < 2 ^ 128 = search rules in
    let burned_high : found.burned.high < 2 ^ 32 = search rules in
    let burned_low : found.burned.low < 2 ^ 128 = search rules in
    let start = string_bytes c.in_ok-text.text in
    let first = string_bytes c.push_str.new.self in
    let second = string_bytes c.push_sum.new.text in
    let third = string_bytes c.push_str-2.new.self in
    let fourth = string_bytes c.push_sum-2.new.text in
    let fifth = string_bytes c.push_str-3.new.self in
    let sixth = string_bytes c.push_sum-3.new.text in
    let end = string_bytes c.push_str-4.new.self in
    let beginning = string_bytes c.entry.inside.beginning in
    let rest = sum_text home ++ (codes " flight " ++ (sum_text flight ++ (codes " burned " ++ (sum_text burned ++ codes "\n")))) in
    let has_beginning : first ≡ start ++ beginning = c.in_ok-push_str.ensures.bytes ∙ ap (λ t. start ++ t) c.deref.ensures in
    let has_home : second ≡ first ++ sum_text home = c.in_ok-push_sum.ensures home (total_fits found.home home_high home_low) in
    let has_flight : third ≡ second ++ codes " flight " = c.in_ok-push_str-2.ensures.bytes in
    let has_flight_sum : fourth ≡ third ++ sum_text flight = c.in_ok-push_sum-2.ensures flight (total_fits found.flight flight_high flight_low) in
    let has_burned : fifth ≡ fourth ++ codes " burned " = c.in_ok-push_str-3.ensures.bytes in
    let has_burned_sum : sixth ≡ fifth ++ sum_text burned = c.in_ok-push_sum-3.ensures burned (total_fits found.burned burned_high burned_low) in
    let has_end : end ≡ sixth ++ codes "\n" = c.in_ok-push_str-4.ensures.bytes in
    let from_sixth = behind fifth sixth end (sum_text burned) (codes "\n") has_burned_sum has_end in
    let from_fifth = behind fourth fifth end (codes " burned ") (sum_text burned ++ codes "\n") has_burned from_sixth in
    let from_fourth = behind third fourth end (sum_text flight) (codes " burned " ++ (sum_text burned ++ codes "\n")) has_flight_sum from_fifth in
    let from_third = behind second third end (codes " flight ") (sum_text flight ++ (codes " burned " ++ (sum_text burned ++ codes "\n"))) has_flight from_fourth in
    let from_second = behind first second end (sum_text home) (codes " flight " ++ (sum_text flight ++ (codes " burned " ++ (sum_text burned ++ codes "\n")))) has_home from_third in
    behind start first end beginning rest has_beginning from_second
    ∙ ap (λ t. t ++ (beginning ++ rest)) c.in_ok-text.ensures.bytes
    ∙ ap (λ (e : PlannedSupply). e.beginning ++ rest) c.entry.view_is
