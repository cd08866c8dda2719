use Rattle.std.proofs.Common.{◌≡◌, ◌++◌, map}
use Rattle.std.specs.Prelude.{codes, string_bytes}
use Rattle.chain_state.specs.PartOf.{part_of}
use Rattle.supply_audit.specs.RowPlaces.{placed_over, flight_over, burned_over}
use Rattle.report_text.specs.Sums.{sum_text}
use Rattle.report_text.proofs.Planning.{behind}
use Rattle.report_text.proofs.supplies.push_figures.Goals as goal

pub returns : goal.returns
returns c =
    let sums = c.supply_at-found.ensures in
    let home = placed_over (map part_of c.args.chains.now) c.args.places.now in
    let flight = flight_over (map part_of c.args.chains.now) c.args.places.now in
    let burned = burned_over (map part_of c.args.chains.now) c.args.places.now in
    let start = string_bytes c.args.text.now in
    let first = string_bytes c.push_str.new.self in
    let second = string_bytes c.push_sum.new.text in
    let third = string_bytes c.push_str-2.new.self in
    let fourth = string_bytes c.push_sum-2.new.text in
    let fifth = string_bytes c.push_str-3.new.self in
    let sixth = string_bytes c.push_sum-3.new.text in
    let end = string_bytes c.push_str-4.new.self in
    let has_beginning : first ≡ start ++ c.args.beginning.now = c.in_ok-push_str.ensures.bytes in
    let has_home : second ≡ first ++ sum_text home = c.in_ok-push_sum.ensures home sums.home in
    let has_flight : third ≡ second ++ codes " flight " = c.in_ok-push_str-2.ensures.bytes in
    let has_flight_sum : fourth ≡ third ++ sum_text flight = c.in_ok-push_sum-2.ensures flight sums.flight in
    let has_burned : fifth ≡ fourth ++ codes " burned " = c.in_ok-push_str-3.ensures.bytes in
    let has_burned_sum : sixth ≡ fifth ++ sum_text burned = c.in_ok-push_sum-3.ensures burned sums.burned in
    let has_end : end ≡ sixth ++ codes "\n" = c.in_ok-push_str-4.ensures.bytes in
    let from_sixth = behind fifth sixth end (sum_text burned) (codes "\n") has_burned_sum has_end in
    let from_fifth = behind fourth fifth end (codes " burned ") (sum_text burned ++ codes "\n") has_burned from_sixth in
    let from_fourth = behind third fourth end (sum_text flight) (codes " burned " ++ (sum_text burned ++ codes "\n")) has_flight_sum from_fifth in
    let from_third = behind second third end (codes " flight ") (sum_text flight ++ (codes " burned " ++ (sum_text burned ++ codes "\n"))) has_flight from_fourth in
    let from_second = behind first second end (sum_text home) (codes " flight " ++ (sum_text flight ++ (codes " burned " ++ (sum_text burned ++ codes "\n")))) has_home from_third in
    behind start first end c.args.beginning.now (sum_text home ++ (codes " flight " ++ (sum_text flight ++ (codes " burned " ++ (sum_text burned ++ codes "\n"))))) has_beginning from_second
