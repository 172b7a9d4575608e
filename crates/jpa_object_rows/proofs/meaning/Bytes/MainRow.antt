-- A main row put or dropped, where the pairs stand.
use Rattle.std.specs.Prelude.{◌≡◌, Some}
use Rattle.std.proofs.Common.{ap, ◌∙◌}
use Rattle.std.specs.FinMap.{put}
use Rattle.jpa_value.specs.declared.value.Identity.{Identity}
use Rattle.jpa_value.specs.Value.{identity_cmp}
use Rattle.jpa_behaviour.specs.Behaviour.{World}
use Rattle.jpa_stored.specs.declared.objects.stored.Stored.{Stored}
use Rattle.jpa_stored.specs.objects.Sets.{with_stored}
use Rattle.jpa_rows.specs.laws.Entries.{read_by}
use Rattle.jpa_rows.specs.laws.Changes.{dropped}
use Rattle.jpa_rows.proofs.laws.Maps.{found_put, found_dropped, put_rises, dropped_rises}
use Rattle.jpa_object_rows.specs.meaning.Rows.{row_cmp, row_of, Columns, Rows, AreRising}
use Rattle.jpa_object_rows.specs.meaning.View.{set_of, stored_from, stored_in}
use Rattle.jpa_object_rows.specs.meaning.Identities.{IsSpelled}
use Rattle.jpa_object_rows.proofs.meaning.Bytes.Orders.{row_ids}
use Rattle.jpa_object_rows.proofs.meaning.Bytes.Spelling.{spelling}
use Rattle.jpa_object_rows.proofs.meaning.Bytes.SetLaws.{set_put, set_dropped}
use Rattle.jpa_object_rows.proofs.meaning.Bytes.Others.{main_unread, foreign_main, pairs_put, put_stays, dropped_stays, read_stays}

pub main_put : (world : World) (rows : Rows) → AreRising rows → (id : Identity) (columns : Columns) (x : Stored) → IsSpelled world.model id
    → stored_in world rows id columns ≡ Some x → set_of world (put row_cmp (row_of id) columns rows) ≡ with_stored id x (set_of world rows)
main_put world rows rise id columns x spelled stands =
    let m = world.model in
    let s = spelling m id spelled in
    let own = pairs_put m id rows rise (row_of id) columns (main_unread m id (row_of id) s.root s.at) in
    set_put world rows (put row_cmp (row_of id) columns rows) rise (put_rises row_ids (row_of id) columns rows rise) id x spelled
    ((λ i. read_by (stored_from world (own i) id) (found_put row_ids (row_of id) columns rows i)) ∙ stands)
    (λ q sq apart. read_stays world q rows (put row_cmp (row_of id) columns rows) (put_stays m q rows rise (row_of id) columns (foreign_main m id q spelled sq apart)))

pub main_dropped : (world : World) (rows : Rows) → AreRising rows → (id : Identity) → IsSpelled world.model id
    → set_of world (dropped row_cmp (row_of id) rows) ≡ dropped identity_cmp id (set_of world rows)
main_dropped world rows rise id spelled =
    let m = world.model in
    let news = dropped row_cmp (row_of id) rows in
    set_dropped world rows news rise (dropped_rises row_ids (row_of id) rows rise) id spelled
    (ap (read_by (stored_in world news id)) (found_dropped row_ids (row_of id) rows))
    (λ q sq apart. read_stays world q rows news (dropped_stays m q rows rise (row_of id) (foreign_main m id q spelled sq apart)))
