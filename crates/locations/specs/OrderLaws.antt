-- The orders are total, and only equal values tie.
use Rattle.std.specs.Prelude.{length}
use Rattle.std.specs.Cmp.{IsTotalOrder, nat_cmp_total, on_total, then_total}
use Rattle.std.specs.Cmp.Lexicographic.{nat_list_cmp_total, lists_total}
use Rattle.locations.specs.declared.relative.Location.{Location}
use Rattle.locations.specs.Order.{junction_fields, fields_cmp, junction_cmp, junctions_cmp, location_cmp}

pub fields_total : IsTotalOrder fields_cmp
fields_total = lists_total nat_list_cmp_total

pub junction_total : IsTotalOrder junction_cmp
junction_total = on_total junction_fields (lists_total fields_total)

pub junctions_total : IsTotalOrder junctions_cmp
junctions_total = then_total (on_total length nat_cmp_total) (lists_total junction_total)

pub location_total : IsTotalOrder location_cmp
location_total = then_total (on_total (λ (l : Location). l.parents) nat_cmp_total) (on_total (λ (l : Location). l.interior) junctions_total)
