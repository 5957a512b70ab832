-- Each promise decides, and allows an outcome: of the public functions up to those that C calls, gathered from each crate's own
-- file `proofs/Decided.antt`, from the bottom up. (The functions of the program `play` promise nothing; the functions that ask
-- something of their caller are listed in docs/DECISIONS.md.)
-- Assumes nothing.
use mathlib.Core.List.{List}
use Prim.Native.Nat.{ℕ}
use borrow.Fn.Kind.{ParamKind, ResultKind}
use borrow.Fn.Kinds.{In, Out}
use Rattle.base.specs.Decides.{Decides, Allows}
use Rattle.base.proofs.byte_at.Kinds as base_byte_at_kinds
use Rattle.base.proofs.byte_at.Reads as base_byte_at_reads
use Rattle.base.proofs.set_byte.Kinds as base_set_byte_kinds
use Rattle.base.proofs.set_byte.Reads as base_set_byte_reads
use Rattle.base.proofs.word.Kinds as base_word_kinds
use Rattle.base.proofs.word.Reads as base_word_reads
use Rattle.base.proofs.word_at.Kinds as base_word_at_kinds
use Rattle.base.proofs.word_at.Reads as base_word_at_reads
use Rattle.base.proofs.lay.Kinds as base_lay_kinds
use Rattle.base.proofs.lay.Reads as base_lay_reads
use Rattle.base.proofs.set_word.Kinds as base_set_word_kinds
use Rattle.base.proofs.set_word.Reads as base_set_word_reads
use Rattle.base.proofs.Decided as base
use Rattle.names.proofs.none.Kinds as names_none_kinds
use Rattle.names.proofs.none.Reads as names_none_reads
use Rattle.names.proofs.name_at.Kinds as names_name_at_kinds
use Rattle.names.proofs.name_at.Reads as names_name_at_reads
use Rattle.names.proofs.matches.Kinds as names_matches_kinds
use Rattle.names.proofs.matches.Reads as names_matches_reads
use Rattle.names.proofs.Decided as names
use Rattle.image.proofs.sector_byte.Kinds as image_sector_byte_kinds
use Rattle.image.proofs.sector_byte.Reads as image_sector_byte_reads
use Rattle.image.proofs.set_sector_byte.Kinds as image_set_sector_byte_kinds
use Rattle.image.proofs.set_sector_byte.Reads as image_set_sector_byte_reads
use Rattle.image.proofs.entry_byte.Kinds as image_entry_byte_kinds
use Rattle.image.proofs.entry_byte.Reads as image_entry_byte_reads
use Rattle.image.proofs.flag.Kinds as image_flag_kinds
use Rattle.image.proofs.flag.Reads as image_flag_reads
use Rattle.image.proofs.in_use.Kinds as image_in_use_kinds
use Rattle.image.proofs.in_use.Reads as image_in_use_reads
use Rattle.image.proofs.is_locked.Kinds as image_is_locked_kinds
use Rattle.image.proofs.is_locked.Reads as image_is_locked_reads
use Rattle.image.proofs.first.Kinds as image_first_kinds
use Rattle.image.proofs.first.Reads as image_first_reads
use Rattle.image.proofs.count.Kinds as image_count_kinds
use Rattle.image.proofs.count.Reads as image_count_reads
use Rattle.image.proofs.find.Kinds as image_find_kinds
use Rattle.image.proofs.find.Reads as image_find_reads
use Rattle.image.proofs.sector_of.Kinds as image_sector_of_kinds
use Rattle.image.proofs.sector_of.Reads as image_sector_of_reads
use Rattle.image.proofs.stand_of.Kinds as image_stand_of_kinds
use Rattle.image.proofs.stand_of.Reads as image_stand_of_reads
use Rattle.image.proofs.Decided as image
use Rattle.handler.proofs.on_block.Kinds as handler_on_block_kinds
use Rattle.handler.proofs.on_block.Reads as handler_on_block_reads
use Rattle.handler.proofs.Decided as handler
use Rattle.keys.proofs.table.entry.Kinds as keys_entry_kinds
use Rattle.keys.proofs.table.entry.Reads as keys_entry_reads
use Rattle.keys.proofs.translate.Kinds as keys_translate_kinds
use Rattle.keys.proofs.translate.Reads as keys_translate_reads
use Rattle.keys.proofs.keyboard.Keyboard.fresh.Kinds as keys_fresh_kinds
use Rattle.keys.proofs.keyboard.Keyboard.fresh.Reads as keys_fresh_reads
use Rattle.keys.proofs.keyboard.Keyboard.press.Kinds as keys_press_kinds
use Rattle.keys.proofs.keyboard.Keyboard.press.Reads as keys_press_reads
use Rattle.keys.proofs.keyboard.Keyboard.get.Kinds as keys_get_kinds
use Rattle.keys.proofs.keyboard.Keyboard.get.Reads as keys_get_reads
use Rattle.keys.proofs.Decided as keys
use Rattle.cells.proofs.is_mode.Kinds as cells_is_mode_kinds
use Rattle.cells.proofs.is_mode.Reads as cells_is_mode_reads
use Rattle.cells.proofs.shape_of.Kinds as cells_shape_of_kinds
use Rattle.cells.proofs.shape_of.Reads as cells_shape_of_reads
use Rattle.cells.proofs.count.Kinds as cells_count_kinds
use Rattle.cells.proofs.count.Reads as cells_count_reads
use Rattle.cells.proofs.place.Kinds as cells_place_kinds
use Rattle.cells.proofs.place.Reads as cells_place_reads
use Rattle.cells.proofs.read.Kinds as cells_read_kinds
use Rattle.cells.proofs.read.Reads as cells_read_reads
use Rattle.cells.proofs.write.Kinds as cells_write_kinds
use Rattle.cells.proofs.write.Reads as cells_write_reads
use Rattle.cells.proofs.fill.Kinds as cells_fill_kinds
use Rattle.cells.proofs.fill.Reads as cells_fill_reads
use Rattle.cells.proofs.reduce.Kinds as cells_reduce_kinds
use Rattle.cells.proofs.reduce.Reads as cells_reduce_reads
use Rattle.cells.proofs.scroll.Kinds as cells_scroll_kinds
use Rattle.cells.proofs.scroll.Reads as cells_scroll_reads
use Rattle.cells.proofs.scroll_by.Kinds as cells_scroll_by_kinds
use Rattle.cells.proofs.scroll_by.Reads as cells_scroll_by_reads
use Rattle.cells.proofs.part.paint.Kinds as cells_paint_kinds
use Rattle.cells.proofs.part.paint.Reads as cells_paint_reads
use Rattle.cells.proofs.part.reduce_all.Kinds as cells_reduce_all_kinds
use Rattle.cells.proofs.part.reduce_all.Reads as cells_reduce_all_reads
use Rattle.cells.proofs.part.shift.Kinds as cells_shift_kinds
use Rattle.cells.proofs.part.shift.Reads as cells_shift_reads
use Rattle.cells.proofs.Decided as cells
use Rattle.editor.proofs.Editor.place.Kinds as editor_place_kinds
use Rattle.editor.proofs.Editor.place.Reads as editor_place_reads
use Rattle.editor.proofs.Editor.new_row.Kinds as editor_new_row_kinds
use Rattle.editor.proofs.Editor.new_row.Reads as editor_new_row_reads
use Rattle.editor.proofs.Editor.open.Kinds as editor_open_kinds
use Rattle.editor.proofs.Editor.open.Reads as editor_open_reads
use Rattle.editor.proofs.Editor.get.Kinds as editor_get_kinds
use Rattle.editor.proofs.Editor.get.Reads as editor_get_reads
use Rattle.editor.proofs.line.column_of.Kinds as editor_column_of_kinds
use Rattle.editor.proofs.line.column_of.Reads as editor_column_of_reads
use Rattle.editor.proofs.line.end.Kinds as editor_end_kinds
use Rattle.editor.proofs.line.end.Reads as editor_end_reads
use Rattle.editor.proofs.Decided as editor
use Rattle.controls.proofs.decide.plain.Kinds as controls_plain_kinds
use Rattle.controls.proofs.decide.plain.Reads as controls_plain_reads
use Rattle.controls.proofs.decide.act_of.Kinds as controls_act_of_kinds
use Rattle.controls.proofs.decide.act_of.Reads as controls_act_of_reads
use Rattle.controls.proofs.put.Kinds as controls_put_kinds
use Rattle.controls.proofs.put.Reads as controls_put_reads
use Rattle.controls.proofs.Decided as controls
use Rattle.graphics.proofs.Graphics.place.Kinds as graphics_place_kinds
use Rattle.graphics.proofs.Graphics.place.Reads as graphics_place_reads
use Rattle.graphics.proofs.Graphics.open.Kinds as graphics_open_kinds
use Rattle.graphics.proofs.Graphics.open.Reads as graphics_open_reads
use Rattle.graphics.proofs.Graphics.get.Kinds as graphics_get_kinds
use Rattle.graphics.proofs.Graphics.get.Reads as graphics_get_reads
use Rattle.graphics.proofs.Graphics.put.Kinds as graphics_put_kinds
use Rattle.graphics.proofs.Graphics.put.Reads as graphics_put_reads
use Rattle.graphics.proofs.Decided as graphics
use Rattle.printer.proofs.Printer.fresh.Kinds as printer_fresh_kinds
use Rattle.printer.proofs.Printer.fresh.Reads as printer_fresh_reads
use Rattle.printer.proofs.Printer.put.Kinds as printer_put_kinds
use Rattle.printer.proofs.Printer.put.Reads as printer_put_reads
use Rattle.printer.proofs.Decided as printer
use Rattle.records.proofs.found.Kinds as records_found_kinds
use Rattle.records.proofs.found.Reads as records_found_reads
use Rattle.records.proofs.lay.Kinds as records_lay_kinds
use Rattle.records.proofs.lay.Reads as records_lay_reads
use Rattle.records.proofs.Decided as records
use Rattle.cassette.proofs.Cassette.fresh.Kinds as cassette_fresh_kinds
use Rattle.cassette.proofs.Cassette.fresh.Reads as cassette_fresh_reads
use Rattle.cassette.proofs.Cassette.open.Kinds as cassette_open_kinds
use Rattle.cassette.proofs.Cassette.open.Reads as cassette_open_reads
use Rattle.cassette.proofs.Cassette.close.Kinds as cassette_close_kinds
use Rattle.cassette.proofs.Cassette.close.Reads as cassette_close_reads
use Rattle.cassette.proofs.Cassette.read.Kinds as cassette_read_kinds
use Rattle.cassette.proofs.Cassette.read.Reads as cassette_read_reads
use Rattle.cassette.proofs.Cassette.write.Kinds as cassette_write_kinds
use Rattle.cassette.proofs.Cassette.write.Reads as cassette_write_reads
use Rattle.cassette.proofs.Decided as cassette
use Rattle.listing.proofs.record_character.Kinds as listing_record_character_kinds
use Rattle.listing.proofs.record_character.Reads as listing_record_character_reads
use Rattle.listing.proofs.record_length.Kinds as listing_record_length_kinds
use Rattle.listing.proofs.record_length.Reads as listing_record_length_reads
use Rattle.listing.proofs.read.Kinds as listing_read_kinds
use Rattle.listing.proofs.read.Reads as listing_read_reads
use Rattle.listing.proofs.Decided as listing
use Rattle.files.proofs.read.Kinds as files_read_kinds
use Rattle.files.proofs.read.Reads as files_read_reads
use Rattle.files.proofs.Decided as files
use Rattle.disk.proofs.status.Kinds as disk_status_kinds
use Rattle.disk.proofs.status.Reads as disk_status_reads
use Rattle.disk.proofs.fits.Kinds as disk_fits_kinds
use Rattle.disk.proofs.fits.Reads as disk_fits_reads
use Rattle.disk.proofs.open.Kinds as disk_open_kinds
use Rattle.disk.proofs.open.Reads as disk_open_reads
use Rattle.disk.proofs.read.Kinds as disk_read_kinds
use Rattle.disk.proofs.read.Reads as disk_read_reads
use Rattle.disk.proofs.Decided as disk
use Rattle.chains.proofs.keep.Kinds as chains_keep_kinds
use Rattle.chains.proofs.keep.Reads as chains_keep_reads
use Rattle.chains.proofs.free.Kinds as chains_free_kinds
use Rattle.chains.proofs.free.Reads as chains_free_reads
use Rattle.chains.proofs.count_free.Kinds as chains_count_free_kinds
use Rattle.chains.proofs.count_free.Reads as chains_count_free_reads
use Rattle.chains.proofs.Decided as chains
use Rattle.changes.proofs.note.Kinds as changes_note_kinds
use Rattle.changes.proofs.note.Reads as changes_note_reads
use Rattle.changes.proofs.replay.Kinds as changes_replay_kinds
use Rattle.changes.proofs.replay.Reads as changes_replay_reads
use Rattle.changes.proofs.Decided as changes
use Rattle.repairs.proofs.note_file.Kinds as repairs_note_file_kinds
use Rattle.repairs.proofs.note_file.Reads as repairs_note_file_reads
use Rattle.repairs.proofs.note_sectors.Kinds as repairs_note_sectors_kinds
use Rattle.repairs.proofs.note_sectors.Reads as repairs_note_sectors_reads
use Rattle.repairs.proofs.Decided as repairs
use Rattle.doctor.proofs.repair.Kinds as doctor_repair_kinds
use Rattle.doctor.proofs.repair.Reads as doctor_repair_reads
use Rattle.doctor.proofs.Decided as doctor
use Rattle.console.proofs.state.Console.fresh.Kinds as console_state_fresh_kinds
use Rattle.console.proofs.state.Console.fresh.Reads as console_state_fresh_reads
use Rattle.console.proofs.state.Console.editor.Kinds as console_editor_kinds
use Rattle.console.proofs.state.Console.editor.Reads as console_editor_reads
use Rattle.console.proofs.state.Console.set_editor.Kinds as console_set_editor_kinds
use Rattle.console.proofs.state.Console.set_editor.Reads as console_set_editor_reads
use Rattle.console.proofs.state.Console.graphics.Kinds as console_graphics_kinds
use Rattle.console.proofs.state.Console.graphics.Reads as console_graphics_reads
use Rattle.console.proofs.state.Console.set_graphics.Kinds as console_set_graphics_kinds
use Rattle.console.proofs.state.Console.set_graphics.Reads as console_set_graphics_reads
use Rattle.console.proofs.state.Console.press.Kinds as console_press_kinds
use Rattle.console.proofs.state.Console.press.Reads as console_press_reads
use Rattle.console.proofs.each.open_editor.Kinds as console_open_editor_kinds
use Rattle.console.proofs.each.open_editor.Reads as console_open_editor_reads
use Rattle.console.proofs.each.open_screen.Kinds as console_open_screen_kinds
use Rattle.console.proofs.each.open_screen.Reads as console_open_screen_reads
use Rattle.console.proofs.each.read_editor.Kinds as console_read_editor_kinds
use Rattle.console.proofs.each.read_editor.Reads as console_read_editor_reads
use Rattle.console.proofs.each.read_screen.Kinds as console_read_screen_kinds
use Rattle.console.proofs.each.read_screen.Reads as console_read_screen_reads
use Rattle.console.proofs.each.read_keyboard.Kinds as console_read_keyboard_kinds
use Rattle.console.proofs.each.read_keyboard.Reads as console_read_keyboard_reads
use Rattle.console.proofs.each.write_editor.Kinds as console_write_editor_kinds
use Rattle.console.proofs.each.write_editor.Reads as console_write_editor_reads
use Rattle.console.proofs.each.write_screen.Kinds as console_write_screen_kinds
use Rattle.console.proofs.each.write_screen.Reads as console_write_screen_reads
use Rattle.console.proofs.Decided as console
use Rattle.acts.proofs.fresh.Kinds as acts_fresh_kinds
use Rattle.acts.proofs.fresh.Reads as acts_fresh_reads
use Rattle.acts.proofs.open.Kinds as acts_open_kinds
use Rattle.acts.proofs.open.Reads as acts_open_reads
use Rattle.acts.proofs.prepare.Kinds as acts_prepare_kinds
use Rattle.acts.proofs.prepare.Reads as acts_prepare_reads
use Rattle.acts.proofs.read.Kinds as acts_read_kinds
use Rattle.acts.proofs.read.Reads as acts_read_reads
use Rattle.acts.proofs.write.Kinds as acts_write_kinds
use Rattle.acts.proofs.write.Reads as acts_write_reads
use Rattle.acts.proofs.Decided as acts
use Rattle.blocks.proofs.Table.closed.Kinds as blocks_table_closed_kinds
use Rattle.blocks.proofs.Table.closed.Reads as blocks_table_closed_reads
use Rattle.blocks.proofs.Gather.fresh.Kinds as blocks_gather_fresh_kinds
use Rattle.blocks.proofs.Gather.fresh.Reads as blocks_gather_fresh_reads
use Rattle.blocks.proofs.Port.fresh.Kinds as blocks_port_fresh_kinds
use Rattle.blocks.proofs.Port.fresh.Reads as blocks_port_fresh_reads
use Rattle.blocks.proofs.U8FromSpecificationError.from.Kinds as blocks_status_from_kinds
use Rattle.blocks.proofs.U8FromSpecificationError.from.Reads as blocks_status_from_reads
use Rattle.blocks.proofs.device_of.Kinds as blocks_device_of_kinds
use Rattle.blocks.proofs.device_of.Reads as blocks_device_of_reads
use Rattle.blocks.proofs.specification_at.Kinds as blocks_specification_at_kinds
use Rattle.blocks.proofs.specification_at.Reads as blocks_specification_at_reads
use Rattle.blocks.proofs.aux1_reads.Kinds as blocks_aux1_reads_kinds
use Rattle.blocks.proofs.aux1_reads.Reads as blocks_aux1_reads_reads
use Rattle.blocks.proofs.aux1_writes.Kinds as blocks_aux1_writes_kinds
use Rattle.blocks.proofs.aux1_writes.Reads as blocks_aux1_writes_reads
use Rattle.blocks.proofs.offers.Kinds as blocks_offers_kinds
use Rattle.blocks.proofs.offers.Reads as blocks_offers_reads
use Rattle.blocks.proofs.Decided as blocks
use Rattle.commands.proofs.command_of.Kinds as commands_command_of_kinds
use Rattle.commands.proofs.command_of.Reads as commands_command_of_reads
use Rattle.commands.proofs.transfer_kind.Kinds as commands_transfer_kind_kinds
use Rattle.commands.proofs.transfer_kind.Reads as commands_transfer_kind_reads
use Rattle.commands.proofs.Decided as commands
use Rattle.replies.proofs.copy_bytes.Kinds as replies_copy_bytes_kinds
use Rattle.replies.proofs.copy_bytes.Reads as replies_copy_bytes_reads
use Rattle.replies.proofs.call_reply.Kinds as replies_call_reply_kinds
use Rattle.replies.proofs.call_reply.Reads as replies_call_reply_reads
use Rattle.replies.proofs.status_reply.Kinds as replies_status_reply_kinds
use Rattle.replies.proofs.status_reply.Reads as replies_status_reply_reads
use Rattle.replies.proofs.fetch_reply.Kinds as replies_fetch_reply_kinds
use Rattle.replies.proofs.fetch_reply.Reads as replies_fetch_reply_reads
use Rattle.replies.proofs.Decided as replies
use Rattle.wire.proofs.field_is_good.Kinds as wire_field_is_good_kinds
use Rattle.wire.proofs.field_is_good.Reads as wire_field_is_good_reads
use Rattle.wire.proofs.goes_on.Kinds as wire_goes_on_kinds
use Rattle.wire.proofs.goes_on.Reads as wire_goes_on_reads
use Rattle.wire.proofs.value.Kinds as wire_value_kinds
use Rattle.wire.proofs.value.Reads as wire_value_reads
use Rattle.wire.proofs.take.Kinds as wire_take_kinds
use Rattle.wire.proofs.take.Reads as wire_take_reads
use Rattle.wire.proofs.message_of.Kinds as wire_message_of_kinds
use Rattle.wire.proofs.message_of.Reads as wire_message_of_reads
use Rattle.wire.proofs.give.Kinds as wire_give_kinds
use Rattle.wire.proofs.give.Reads as wire_give_reads
use Rattle.wire.proofs.gather_fits.Kinds as wire_gather_fits_kinds
use Rattle.wire.proofs.gather_fits.Reads as wire_gather_fits_reads
use Rattle.wire.proofs.reply_fits.Kinds as wire_reply_fits_kinds
use Rattle.wire.proofs.reply_fits.Reads as wire_reply_fits_reads
use Rattle.wire.proofs.Decided as wire
use Rattle.reading.proofs.three.Kinds as reading_three_kinds
use Rattle.reading.proofs.three.Reads as reading_three_reads
use Rattle.reading.proofs.block.Kinds as reading_block_kinds
use Rattle.reading.proofs.block.Reads as reading_block_reads
use Rattle.reading.proofs.phase.Kinds as reading_phase_kinds
use Rattle.reading.proofs.phase.Reads as reading_phase_reads
use Rattle.reading.proofs.console.Kinds as reading_console_kinds
use Rattle.reading.proofs.console.Reads as reading_console_reads
use Rattle.reading.proofs.printer.Kinds as reading_printer_kinds
use Rattle.reading.proofs.printer.Reads as reading_printer_reads
use Rattle.reading.proofs.cassette.Kinds as reading_cassette_kinds
use Rattle.reading.proofs.cassette.Reads as reading_cassette_reads
use Rattle.reading.proofs.gather.Kinds as reading_gather_kinds
use Rattle.reading.proofs.gather.Reads as reading_gather_reads
use Rattle.reading.proofs.header.Kinds as reading_header_kinds
use Rattle.reading.proofs.header.Reads as reading_header_reads
use Rattle.reading.proofs.run.Kinds as reading_run_kinds
use Rattle.reading.proofs.run.Reads as reading_run_reads
use Rattle.reading.proofs.reply.Kinds as reading_reply_kinds
use Rattle.reading.proofs.reply.Reads as reading_reply_reads
use Rattle.reading.proofs.Decided as reading
use Rattle.writing.proofs.block.Kinds as writing_block_kinds
use Rattle.writing.proofs.block.Reads as writing_block_reads
use Rattle.writing.proofs.gather.Kinds as writing_gather_kinds
use Rattle.writing.proofs.gather.Reads as writing_gather_reads
use Rattle.writing.proofs.run.Kinds as writing_run_kinds
use Rattle.writing.proofs.run.Reads as writing_run_reads
use Rattle.writing.proofs.phase.Kinds as writing_phase_kinds
use Rattle.writing.proofs.phase.Reads as writing_phase_reads
use Rattle.writing.proofs.port.Kinds as writing_port_kinds
use Rattle.writing.proofs.port.Reads as writing_port_reads
use Rattle.writing.proofs.console.Kinds as writing_console_kinds
use Rattle.writing.proofs.console.Reads as writing_console_reads
use Rattle.writing.proofs.printer.Kinds as writing_printer_kinds
use Rattle.writing.proofs.printer.Reads as writing_printer_reads
use Rattle.writing.proofs.cassette.Kinds as writing_cassette_kinds
use Rattle.writing.proofs.cassette.Reads as writing_cassette_reads
use Rattle.writing.proofs.Decided as writing
use Rattle.ports.proofs.phase_of.Kinds as ports_phase_of_kinds
use Rattle.ports.proofs.phase_of.Reads as ports_phase_of_reads
use Rattle.ports.proofs.set_phase.Kinds as ports_set_phase_kinds
use Rattle.ports.proofs.set_phase.Reads as ports_set_phase_reads
use Rattle.ports.proofs.set_gather.Kinds as ports_set_gather_kinds
use Rattle.ports.proofs.set_gather.Reads as ports_set_gather_reads
use Rattle.ports.proofs.set_run.Kinds as ports_set_run_kinds
use Rattle.ports.proofs.set_run.Reads as ports_set_run_reads
use Rattle.ports.proofs.block_of.Kinds as ports_block_of_kinds
use Rattle.ports.proofs.block_of.Reads as ports_block_of_reads
use Rattle.ports.proofs.set_block.Kinds as ports_set_block_kinds
use Rattle.ports.proofs.set_block.Reads as ports_set_block_reads
use Rattle.ports.proofs.set_port.Kinds as ports_set_port_kinds
use Rattle.ports.proofs.set_port.Reads as ports_set_port_reads
use Rattle.ports.proofs.Decided as ports
use Rattle.transfer.proofs.after_get.Kinds as transfer_after_get_kinds
use Rattle.transfer.proofs.after_get.Reads as transfer_after_get_reads
use Rattle.transfer.proofs.byte_to_send.Kinds as transfer_byte_to_send_kinds
use Rattle.transfer.proofs.byte_to_send.Reads as transfer_byte_to_send_reads
use Rattle.transfer.proofs.after_put.Kinds as transfer_after_put_kinds
use Rattle.transfer.proofs.after_put.Reads as transfer_after_put_reads
use Rattle.transfer.proofs.land.Kinds as transfer_land_kinds
use Rattle.transfer.proofs.land.Reads as transfer_land_reads
use Rattle.transfer.proofs.Decided as transfer
use Rattle.recorder.proofs.open.Kinds as recorder_open_kinds
use Rattle.recorder.proofs.open.Reads as recorder_open_reads
use Rattle.recorder.proofs.close.Kinds as recorder_close_kinds
use Rattle.recorder.proofs.close.Reads as recorder_close_reads
use Rattle.recorder.proofs.read.Kinds as recorder_read_kinds
use Rattle.recorder.proofs.read.Reads as recorder_read_reads
use Rattle.recorder.proofs.write.Kinds as recorder_write_kinds
use Rattle.recorder.proofs.write.Reads as recorder_write_reads
use Rattle.recorder.proofs.fits.Kinds as recorder_fits_kinds
use Rattle.recorder.proofs.fits.Reads as recorder_fits_reads
use Rattle.recorder.proofs.Decided as recorder
use Rattle.drives.proofs.open.Kinds as drives_open_kinds
use Rattle.drives.proofs.open.Reads as drives_open_reads
use Rattle.drives.proofs.read.Kinds as drives_read_kinds
use Rattle.drives.proofs.read.Reads as drives_read_reads
use Rattle.drives.proofs.status.Kinds as drives_status_kinds
use Rattle.drives.proofs.status.Reads as drives_status_reads
use Rattle.drives.proofs.Decided as drives
use Rattle.devices.proofs.owner_of.Kinds as devices_owner_of_kinds
use Rattle.devices.proofs.owner_of.Reads as devices_owner_of_reads
use Rattle.devices.proofs.group_of.Kinds as devices_group_of_kinds
use Rattle.devices.proofs.group_of.Reads as devices_group_of_reads
use Rattle.devices.proofs.held_by.Kinds as devices_held_by_kinds
use Rattle.devices.proofs.held_by.Reads as devices_held_by_reads
use Rattle.devices.proofs.clashes.Kinds as devices_clashes_kinds
use Rattle.devices.proofs.clashes.Reads as devices_clashes_reads
use Rattle.devices.proofs.open.Kinds as devices_open_kinds
use Rattle.devices.proofs.open.Reads as devices_open_reads
use Rattle.devices.proofs.close.Kinds as devices_close_kinds
use Rattle.devices.proofs.close.Reads as devices_close_reads
use Rattle.devices.proofs.prepare.Kinds as devices_prepare_kinds
use Rattle.devices.proofs.prepare.Reads as devices_prepare_reads
use Rattle.devices.proofs.read.Kinds as devices_read_kinds
use Rattle.devices.proofs.read.Reads as devices_read_reads
use Rattle.devices.proofs.write.Kinds as devices_write_kinds
use Rattle.devices.proofs.write.Reads as devices_write_reads
use Rattle.devices.proofs.status.Kinds as devices_status_kinds
use Rattle.devices.proofs.status.Reads as devices_status_reads
use Rattle.devices.proofs.special.Kinds as devices_special_kinds
use Rattle.devices.proofs.special.Reads as devices_special_reads
use Rattle.devices.proofs.fresh.fresh.Kinds as devices_fresh_kinds
use Rattle.devices.proofs.fresh.fresh.Reads as devices_fresh_reads
use Rattle.devices.proofs.numbers.console_of.Kinds as devices_console_of_kinds
use Rattle.devices.proofs.numbers.console_of.Reads as devices_console_of_reads
use Rattle.devices.proofs.numbers.set_console.Kinds as devices_set_console_kinds
use Rattle.devices.proofs.numbers.set_console.Reads as devices_set_console_reads
use Rattle.devices.proofs.numbers.printer_of.Kinds as devices_printer_of_kinds
use Rattle.devices.proofs.numbers.printer_of.Reads as devices_printer_of_reads
use Rattle.devices.proofs.numbers.set_printer.Kinds as devices_set_printer_kinds
use Rattle.devices.proofs.numbers.set_printer.Reads as devices_set_printer_reads
use Rattle.devices.proofs.Decided as devices
use Rattle.judge.proofs.undamaged.Kinds as judge_undamaged_kinds
use Rattle.judge.proofs.undamaged.Reads as judge_undamaged_reads
use Rattle.judge.proofs.Decided as judge
use Rattle.plan.proofs.planned.Kinds as plan_planned_kinds
use Rattle.plan.proofs.planned.Reads as plan_planned_reads
use Rattle.plan.proofs.open_plan.Kinds as plan_open_plan_kinds
use Rattle.plan.proofs.open_plan.Reads as plan_open_plan_reads
use Rattle.plan.proofs.transfer_plan.Kinds as plan_transfer_plan_kinds
use Rattle.plan.proofs.transfer_plan.Reads as plan_transfer_plan_reads
use Rattle.plan.proofs.group_needed.Kinds as plan_group_needed_kinds
use Rattle.plan.proofs.group_needed.Reads as plan_group_needed_reads
use Rattle.plan.proofs.Decided as plan
use Rattle.checks.proofs.iocb_of.Kinds as checks_iocb_of_kinds
use Rattle.checks.proofs.iocb_of.Reads as checks_iocb_of_reads
use Rattle.checks.proofs.plan_in.Kinds as checks_plan_in_kinds
use Rattle.checks.proofs.plan_in.Reads as checks_plan_in_reads
use Rattle.checks.proofs.Decided as checks
use Rattle.moves.proofs.advance.Kinds as moves_advance_kinds
use Rattle.moves.proofs.advance.Reads as moves_advance_reads
use Rattle.moves.proofs.Decided as moves
use Rattle.cio.proofs.errand.load.Kinds as cio_load_kinds
use Rattle.cio.proofs.errand.load.Reads as cio_load_reads
use Rattle.cio.proofs.errand.run_errand.Kinds as cio_run_errand_kinds
use Rattle.cio.proofs.errand.run_errand.Reads as cio_run_errand_reads
use Rattle.cio.proofs.start.start.Kinds as cio_start_kinds
use Rattle.cio.proofs.start.start.Reads as cio_start_reads
use Rattle.cio.proofs.Decided as cio
use Rattle.running.proofs.land_at.Kinds as running_land_at_kinds
use Rattle.running.proofs.land_at.Reads as running_land_at_reads
use Rattle.running.proofs.advance_at.Kinds as running_advance_at_kinds
use Rattle.running.proofs.advance_at.Reads as running_advance_at_reads
use Rattle.running.proofs.Decided as running
use Rattle.ticks.proofs.tick_at.Kinds as ticks_tick_at_kinds
use Rattle.ticks.proofs.tick_at.Reads as ticks_tick_at_reads
use Rattle.ticks.proofs.Decided as ticks
use Rattle.stick.proofs.served.take_at.Kinds as stick_take_at_kinds
use Rattle.stick.proofs.served.take_at.Reads as stick_take_at_reads
use Rattle.stick.proofs.served.give_at.Kinds as stick_give_at_kinds
use Rattle.stick.proofs.served.give_at.Reads as stick_give_at_reads
use Rattle.stick.proofs.served.press_at.Kinds as stick_press_at_kinds
use Rattle.stick.proofs.served.press_at.Reads as stick_press_at_reads
use Rattle.stick.proofs.started.fresh_all.Kinds as stick_fresh_all_kinds
use Rattle.stick.proofs.started.fresh_all.Reads as stick_fresh_all_reads
use Rattle.stick.proofs.Decided as stick
use Rattle.firmware.proofs.fixlomand_translate.Kinds as firmware_translate_kinds
use Rattle.firmware.proofs.fixlomand_translate.Reads as firmware_translate_reads
use Rattle.firmware.proofs.fixlomand_doctor.Kinds as firmware_doctor_kinds
use Rattle.firmware.proofs.fixlomand_doctor.Reads as firmware_doctor_reads
use Rattle.firmware.proofs.fixlomand_fresh.Kinds as firmware_fresh_kinds
use Rattle.firmware.proofs.fixlomand_fresh.Reads as firmware_fresh_reads
use Rattle.firmware.proofs.fixlomand_take.Kinds as firmware_take_kinds
use Rattle.firmware.proofs.fixlomand_take.Reads as firmware_take_reads
use Rattle.firmware.proofs.fixlomand_tick.Kinds as firmware_tick_kinds
use Rattle.firmware.proofs.fixlomand_tick.Reads as firmware_tick_reads
use Rattle.firmware.proofs.fixlomand_give.Kinds as firmware_give_kinds
use Rattle.firmware.proofs.fixlomand_give.Reads as firmware_give_reads
use Rattle.firmware.proofs.fixlomand_press.Kinds as firmware_press_kinds
use Rattle.firmware.proofs.fixlomand_press.Reads as firmware_press_reads
use Rattle.firmware.proofs.Decided as firmware

pub data Promises : Type 3 where
  none : Promises
  promise : {n : ℕ} (ps : List (ParamKind n)) (r : ResultKind n) (Pre : In n ps) (Learnt : Out n ps r) → Decides ps r Pre Learnt → Allows ps r Pre Learnt → Promises → Promises

pub base_decided : Promises
base_decided =
    promise base_byte_at_kinds.ps base_byte_at_kinds.r base_byte_at_reads.Pre base_byte_at_reads.Learnt base.byte_at_decides base.byte_at_allows (
    promise base_set_byte_kinds.ps base_set_byte_kinds.r base_set_byte_reads.Pre base_set_byte_reads.Learnt base.set_byte_decides base.set_byte_allows (
    promise base_word_kinds.ps base_word_kinds.r base_word_reads.Pre base_word_reads.Learnt base.word_decides base.word_allows (
    promise base_word_at_kinds.ps base_word_at_kinds.r base_word_at_reads.Pre base_word_at_reads.Learnt base.word_at_decides base.word_at_allows (
    promise base_lay_kinds.ps base_lay_kinds.r base_lay_reads.Pre base_lay_reads.Learnt base.lay_decides base.lay_allows (
    promise base_set_word_kinds.ps base_set_word_kinds.r base_set_word_reads.Pre base_set_word_reads.Learnt base.set_word_decides base.set_word_allows none)))))

pub names_decided : Promises
names_decided =
    promise names_none_kinds.ps names_none_kinds.r names_none_reads.Pre names_none_reads.Learnt names.none_decides names.none_allows (
    promise names_name_at_kinds.ps names_name_at_kinds.r names_name_at_reads.Pre names_name_at_reads.Learnt names.name_at_decides names.name_at_allows (
    promise names_matches_kinds.ps names_matches_kinds.r names_matches_reads.Pre names_matches_reads.Learnt names.matches_decides names.matches_allows base_decided))

pub image_decided : Promises
image_decided =
    promise image_sector_byte_kinds.ps image_sector_byte_kinds.r image_sector_byte_reads.Pre image_sector_byte_reads.Learnt image.sector_byte_decides image.sector_byte_allows (
    promise image_set_sector_byte_kinds.ps image_set_sector_byte_kinds.r image_set_sector_byte_reads.Pre image_set_sector_byte_reads.Learnt image.set_sector_byte_decides image.set_sector_byte_allows (
    promise image_entry_byte_kinds.ps image_entry_byte_kinds.r image_entry_byte_reads.Pre image_entry_byte_reads.Learnt image.entry_byte_decides image.entry_byte_allows (
    promise image_flag_kinds.ps image_flag_kinds.r image_flag_reads.Pre image_flag_reads.Learnt image.flag_decides image.flag_allows (
    promise image_in_use_kinds.ps image_in_use_kinds.r image_in_use_reads.Pre image_in_use_reads.Learnt image.in_use_decides image.in_use_allows (
    promise image_is_locked_kinds.ps image_is_locked_kinds.r image_is_locked_reads.Pre image_is_locked_reads.Learnt image.is_locked_decides image.is_locked_allows (
    promise image_first_kinds.ps image_first_kinds.r image_first_reads.Pre image_first_reads.Learnt image.first_decides image.first_allows (
    promise image_count_kinds.ps image_count_kinds.r image_count_reads.Pre image_count_reads.Learnt image.count_decides image.count_allows (
    promise image_find_kinds.ps image_find_kinds.r image_find_reads.Pre image_find_reads.Learnt image.find_decides image.find_allows (
    promise image_sector_of_kinds.ps image_sector_of_kinds.r image_sector_of_reads.Pre image_sector_of_reads.Learnt image.sector_of_decides image.sector_of_allows (
    promise image_stand_of_kinds.ps image_stand_of_kinds.r image_stand_of_reads.Pre image_stand_of_reads.Learnt image.stand_of_decides image.stand_of_allows names_decided))))))))))

pub handler_decided : Promises
handler_decided =
    promise handler_on_block_kinds.ps handler_on_block_kinds.r handler_on_block_reads.Pre handler_on_block_reads.Learnt handler.on_block_decides handler.on_block_allows image_decided

pub keys_decided : Promises
keys_decided =
    promise keys_entry_kinds.ps keys_entry_kinds.r keys_entry_reads.Pre keys_entry_reads.Learnt keys.entry_decides keys.entry_allows (
    promise keys_translate_kinds.ps keys_translate_kinds.r keys_translate_reads.Pre keys_translate_reads.Learnt keys.translate_decides keys.translate_allows (
    promise keys_fresh_kinds.ps keys_fresh_kinds.r keys_fresh_reads.Pre keys_fresh_reads.Learnt keys.fresh_decides keys.fresh_allows (
    promise keys_press_kinds.ps keys_press_kinds.r keys_press_reads.Pre keys_press_reads.Learnt keys.press_decides keys.press_allows (
    promise keys_get_kinds.ps keys_get_kinds.r keys_get_reads.Pre keys_get_reads.Learnt keys.get_decides keys.get_allows handler_decided))))

pub cells_decided : Promises
cells_decided =
    promise cells_is_mode_kinds.ps cells_is_mode_kinds.r cells_is_mode_reads.Pre cells_is_mode_reads.Learnt cells.is_mode_decides cells.is_mode_allows (
    promise cells_shape_of_kinds.ps cells_shape_of_kinds.r cells_shape_of_reads.Pre cells_shape_of_reads.Learnt cells.shape_of_decides cells.shape_of_allows (
    promise cells_count_kinds.ps cells_count_kinds.r cells_count_reads.Pre cells_count_reads.Learnt cells.count_decides cells.count_allows (
    promise cells_place_kinds.ps cells_place_kinds.r cells_place_reads.Pre cells_place_reads.Learnt cells.place_decides cells.place_allows (
    promise cells_read_kinds.ps cells_read_kinds.r cells_read_reads.Pre cells_read_reads.Learnt cells.read_decides cells.read_allows (
    promise cells_write_kinds.ps cells_write_kinds.r cells_write_reads.Pre cells_write_reads.Learnt cells.write_decides cells.write_allows (
    promise cells_fill_kinds.ps cells_fill_kinds.r cells_fill_reads.Pre cells_fill_reads.Learnt cells.fill_decides cells.fill_allows (
    promise cells_reduce_kinds.ps cells_reduce_kinds.r cells_reduce_reads.Pre cells_reduce_reads.Learnt cells.reduce_decides cells.reduce_allows (
    promise cells_scroll_kinds.ps cells_scroll_kinds.r cells_scroll_reads.Pre cells_scroll_reads.Learnt cells.scroll_decides cells.scroll_allows (
    promise cells_scroll_by_kinds.ps cells_scroll_by_kinds.r cells_scroll_by_reads.Pre cells_scroll_by_reads.Learnt cells.scroll_by_decides cells.scroll_by_allows (
    promise cells_paint_kinds.ps cells_paint_kinds.r cells_paint_reads.Pre cells_paint_reads.Learnt cells.paint_decides cells.paint_allows (
    promise cells_reduce_all_kinds.ps cells_reduce_all_kinds.r cells_reduce_all_reads.Pre cells_reduce_all_reads.Learnt cells.reduce_all_decides cells.reduce_all_allows (
    promise cells_shift_kinds.ps cells_shift_kinds.r cells_shift_reads.Pre cells_shift_reads.Learnt cells.shift_decides cells.shift_allows keys_decided))))))))))))

pub editor_decided : Promises
editor_decided =
    promise editor_place_kinds.ps editor_place_kinds.r editor_place_reads.Pre editor_place_reads.Learnt editor.place_decides editor.place_allows (
    promise editor_new_row_kinds.ps editor_new_row_kinds.r editor_new_row_reads.Pre editor_new_row_reads.Learnt editor.new_row_decides editor.new_row_allows (
    promise editor_open_kinds.ps editor_open_kinds.r editor_open_reads.Pre editor_open_reads.Learnt editor.open_decides editor.open_allows (
    promise editor_get_kinds.ps editor_get_kinds.r editor_get_reads.Pre editor_get_reads.Learnt editor.get_decides editor.get_allows (
    promise editor_column_of_kinds.ps editor_column_of_kinds.r editor_column_of_reads.Pre editor_column_of_reads.Learnt editor.column_of_decides editor.column_of_allows (
    promise editor_end_kinds.ps editor_end_kinds.r editor_end_reads.Pre editor_end_reads.Learnt editor.end_decides editor.end_allows cells_decided)))))

pub controls_decided : Promises
controls_decided =
    promise controls_plain_kinds.ps controls_plain_kinds.r controls_plain_reads.Pre controls_plain_reads.Learnt controls.plain_decides controls.plain_allows (
    promise controls_act_of_kinds.ps controls_act_of_kinds.r controls_act_of_reads.Pre controls_act_of_reads.Learnt controls.act_of_decides controls.act_of_allows (
    promise controls_put_kinds.ps controls_put_kinds.r controls_put_reads.Pre controls_put_reads.Learnt controls.put_decides controls.put_allows editor_decided))

pub graphics_decided : Promises
graphics_decided =
    promise graphics_place_kinds.ps graphics_place_kinds.r graphics_place_reads.Pre graphics_place_reads.Learnt graphics.place_decides graphics.place_allows (
    promise graphics_open_kinds.ps graphics_open_kinds.r graphics_open_reads.Pre graphics_open_reads.Learnt graphics.open_decides graphics.open_allows (
    promise graphics_get_kinds.ps graphics_get_kinds.r graphics_get_reads.Pre graphics_get_reads.Learnt graphics.get_decides graphics.get_allows (
    promise graphics_put_kinds.ps graphics_put_kinds.r graphics_put_reads.Pre graphics_put_reads.Learnt graphics.put_decides graphics.put_allows controls_decided)))

pub printer_decided : Promises
printer_decided =
    promise printer_fresh_kinds.ps printer_fresh_kinds.r printer_fresh_reads.Pre printer_fresh_reads.Learnt printer.fresh_decides printer.fresh_allows (
    promise printer_put_kinds.ps printer_put_kinds.r printer_put_reads.Pre printer_put_reads.Learnt printer.put_decides printer.put_allows graphics_decided)

pub records_decided : Promises
records_decided =
    promise records_found_kinds.ps records_found_kinds.r records_found_reads.Pre records_found_reads.Learnt records.found_decides records.found_allows (
    promise records_lay_kinds.ps records_lay_kinds.r records_lay_reads.Pre records_lay_reads.Learnt records.lay_decides records.lay_allows printer_decided)

pub cassette_decided : Promises
cassette_decided =
    promise cassette_fresh_kinds.ps cassette_fresh_kinds.r cassette_fresh_reads.Pre cassette_fresh_reads.Learnt cassette.fresh_decides cassette.fresh_allows (
    promise cassette_open_kinds.ps cassette_open_kinds.r cassette_open_reads.Pre cassette_open_reads.Learnt cassette.open_decides cassette.open_allows (
    promise cassette_close_kinds.ps cassette_close_kinds.r cassette_close_reads.Pre cassette_close_reads.Learnt cassette.close_decides cassette.close_allows (
    promise cassette_read_kinds.ps cassette_read_kinds.r cassette_read_reads.Pre cassette_read_reads.Learnt cassette.read_decides cassette.read_allows (
    promise cassette_write_kinds.ps cassette_write_kinds.r cassette_write_reads.Pre cassette_write_reads.Learnt cassette.write_decides cassette.write_allows records_decided))))

pub listing_decided : Promises
listing_decided =
    promise listing_record_character_kinds.ps listing_record_character_kinds.r listing_record_character_reads.Pre listing_record_character_reads.Learnt listing.record_character_decides listing.record_character_allows (
    promise listing_record_length_kinds.ps listing_record_length_kinds.r listing_record_length_reads.Pre listing_record_length_reads.Learnt listing.record_length_decides listing.record_length_allows (
    promise listing_read_kinds.ps listing_read_kinds.r listing_read_reads.Pre listing_read_reads.Learnt listing.read_decides listing.read_allows cassette_decided))

pub files_decided : Promises
files_decided =
    promise files_read_kinds.ps files_read_kinds.r files_read_reads.Pre files_read_reads.Learnt files.read_decides files.read_allows listing_decided

pub disk_decided : Promises
disk_decided =
    promise disk_status_kinds.ps disk_status_kinds.r disk_status_reads.Pre disk_status_reads.Learnt disk.status_decides disk.status_allows (
    promise disk_fits_kinds.ps disk_fits_kinds.r disk_fits_reads.Pre disk_fits_reads.Learnt disk.fits_decides disk.fits_allows (
    promise disk_open_kinds.ps disk_open_kinds.r disk_open_reads.Pre disk_open_reads.Learnt disk.open_decides disk.open_allows (
    promise disk_read_kinds.ps disk_read_kinds.r disk_read_reads.Pre disk_read_reads.Learnt disk.read_decides disk.read_allows files_decided)))

pub chains_decided : Promises
chains_decided =
    promise chains_keep_kinds.ps chains_keep_kinds.r chains_keep_reads.Pre chains_keep_reads.Learnt chains.keep_decides chains.keep_allows (
    promise chains_free_kinds.ps chains_free_kinds.r chains_free_reads.Pre chains_free_reads.Learnt chains.free_decides chains.free_allows (
    promise chains_count_free_kinds.ps chains_count_free_kinds.r chains_count_free_reads.Pre chains_count_free_reads.Learnt chains.count_free_decides chains.count_free_allows disk_decided))

pub changes_decided : Promises
changes_decided =
    promise changes_note_kinds.ps changes_note_kinds.r changes_note_reads.Pre changes_note_reads.Learnt changes.note_decides changes.note_allows (
    promise changes_replay_kinds.ps changes_replay_kinds.r changes_replay_reads.Pre changes_replay_reads.Learnt changes.replay_decides changes.replay_allows chains_decided)

pub repairs_decided : Promises
repairs_decided =
    promise repairs_note_file_kinds.ps repairs_note_file_kinds.r repairs_note_file_reads.Pre repairs_note_file_reads.Learnt repairs.note_file_decides repairs.note_file_allows (
    promise repairs_note_sectors_kinds.ps repairs_note_sectors_kinds.r repairs_note_sectors_reads.Pre repairs_note_sectors_reads.Learnt repairs.note_sectors_decides repairs.note_sectors_allows changes_decided)

pub doctor_decided : Promises
doctor_decided =
    promise doctor_repair_kinds.ps doctor_repair_kinds.r doctor_repair_reads.Pre doctor_repair_reads.Learnt doctor.repair_decides doctor.repair_allows repairs_decided

pub console_decided : Promises
console_decided =
    promise console_state_fresh_kinds.ps console_state_fresh_kinds.r console_state_fresh_reads.Pre console_state_fresh_reads.Learnt console.state_fresh_decides console.state_fresh_allows (
    promise console_editor_kinds.ps console_editor_kinds.r console_editor_reads.Pre console_editor_reads.Learnt console.editor_decides console.editor_allows (
    promise console_set_editor_kinds.ps console_set_editor_kinds.r console_set_editor_reads.Pre console_set_editor_reads.Learnt console.set_editor_decides console.set_editor_allows (
    promise console_graphics_kinds.ps console_graphics_kinds.r console_graphics_reads.Pre console_graphics_reads.Learnt console.graphics_decides console.graphics_allows (
    promise console_set_graphics_kinds.ps console_set_graphics_kinds.r console_set_graphics_reads.Pre console_set_graphics_reads.Learnt console.set_graphics_decides console.set_graphics_allows (
    promise console_press_kinds.ps console_press_kinds.r console_press_reads.Pre console_press_reads.Learnt console.press_decides console.press_allows (
    promise console_open_editor_kinds.ps console_open_editor_kinds.r console_open_editor_reads.Pre console_open_editor_reads.Learnt console.open_editor_decides console.open_editor_allows (
    promise console_open_screen_kinds.ps console_open_screen_kinds.r console_open_screen_reads.Pre console_open_screen_reads.Learnt console.open_screen_decides console.open_screen_allows (
    promise console_read_editor_kinds.ps console_read_editor_kinds.r console_read_editor_reads.Pre console_read_editor_reads.Learnt console.read_editor_decides console.read_editor_allows (
    promise console_read_screen_kinds.ps console_read_screen_kinds.r console_read_screen_reads.Pre console_read_screen_reads.Learnt console.read_screen_decides console.read_screen_allows (
    promise console_read_keyboard_kinds.ps console_read_keyboard_kinds.r console_read_keyboard_reads.Pre console_read_keyboard_reads.Learnt console.read_keyboard_decides console.read_keyboard_allows (
    promise console_write_editor_kinds.ps console_write_editor_kinds.r console_write_editor_reads.Pre console_write_editor_reads.Learnt console.write_editor_decides console.write_editor_allows (
    promise console_write_screen_kinds.ps console_write_screen_kinds.r console_write_screen_reads.Pre console_write_screen_reads.Learnt console.write_screen_decides console.write_screen_allows doctor_decided))))))))))))

pub acts_decided : Promises
acts_decided =
    promise acts_fresh_kinds.ps acts_fresh_kinds.r acts_fresh_reads.Pre acts_fresh_reads.Learnt acts.fresh_decides acts.fresh_allows (
    promise acts_open_kinds.ps acts_open_kinds.r acts_open_reads.Pre acts_open_reads.Learnt acts.open_decides acts.open_allows (
    promise acts_prepare_kinds.ps acts_prepare_kinds.r acts_prepare_reads.Pre acts_prepare_reads.Learnt acts.prepare_decides acts.prepare_allows (
    promise acts_read_kinds.ps acts_read_kinds.r acts_read_reads.Pre acts_read_reads.Learnt acts.read_decides acts.read_allows (
    promise acts_write_kinds.ps acts_write_kinds.r acts_write_reads.Pre acts_write_reads.Learnt acts.write_decides acts.write_allows console_decided))))

pub blocks_decided : Promises
blocks_decided =
    promise blocks_table_closed_kinds.ps blocks_table_closed_kinds.r blocks_table_closed_reads.Pre blocks_table_closed_reads.Learnt blocks.table_closed_decides blocks.table_closed_allows (
    promise blocks_gather_fresh_kinds.ps blocks_gather_fresh_kinds.r blocks_gather_fresh_reads.Pre blocks_gather_fresh_reads.Learnt blocks.gather_fresh_decides blocks.gather_fresh_allows (
    promise blocks_port_fresh_kinds.ps blocks_port_fresh_kinds.r blocks_port_fresh_reads.Pre blocks_port_fresh_reads.Learnt blocks.port_fresh_decides blocks.port_fresh_allows (
    promise blocks_status_from_kinds.ps blocks_status_from_kinds.r blocks_status_from_reads.Pre blocks_status_from_reads.Learnt blocks.status_from_decides blocks.status_from_allows (
    promise blocks_device_of_kinds.ps blocks_device_of_kinds.r blocks_device_of_reads.Pre blocks_device_of_reads.Learnt blocks.device_of_decides blocks.device_of_allows (
    promise blocks_specification_at_kinds.ps blocks_specification_at_kinds.r blocks_specification_at_reads.Pre blocks_specification_at_reads.Learnt blocks.specification_at_decides blocks.specification_at_allows (
    promise blocks_aux1_reads_kinds.ps blocks_aux1_reads_kinds.r blocks_aux1_reads_reads.Pre blocks_aux1_reads_reads.Learnt blocks.aux1_reads_decides blocks.aux1_reads_allows (
    promise blocks_aux1_writes_kinds.ps blocks_aux1_writes_kinds.r blocks_aux1_writes_reads.Pre blocks_aux1_writes_reads.Learnt blocks.aux1_writes_decides blocks.aux1_writes_allows (
    promise blocks_offers_kinds.ps blocks_offers_kinds.r blocks_offers_reads.Pre blocks_offers_reads.Learnt blocks.offers_decides blocks.offers_allows acts_decided))))))))

pub commands_decided : Promises
commands_decided =
    promise commands_command_of_kinds.ps commands_command_of_kinds.r commands_command_of_reads.Pre commands_command_of_reads.Learnt commands.command_of_decides commands.command_of_allows (
    promise commands_transfer_kind_kinds.ps commands_transfer_kind_kinds.r commands_transfer_kind_reads.Pre commands_transfer_kind_reads.Learnt commands.transfer_kind_decides commands.transfer_kind_allows blocks_decided)

pub replies_decided : Promises
replies_decided =
    promise replies_copy_bytes_kinds.ps replies_copy_bytes_kinds.r replies_copy_bytes_reads.Pre replies_copy_bytes_reads.Learnt replies.copy_bytes_decides replies.copy_bytes_allows (
    promise replies_call_reply_kinds.ps replies_call_reply_kinds.r replies_call_reply_reads.Pre replies_call_reply_reads.Learnt replies.call_reply_decides replies.call_reply_allows (
    promise replies_status_reply_kinds.ps replies_status_reply_kinds.r replies_status_reply_reads.Pre replies_status_reply_reads.Learnt replies.status_reply_decides replies.status_reply_allows (
    promise replies_fetch_reply_kinds.ps replies_fetch_reply_kinds.r replies_fetch_reply_reads.Pre replies_fetch_reply_reads.Learnt replies.fetch_reply_decides replies.fetch_reply_allows commands_decided)))

pub wire_decided : Promises
wire_decided =
    promise wire_field_is_good_kinds.ps wire_field_is_good_kinds.r wire_field_is_good_reads.Pre wire_field_is_good_reads.Learnt wire.field_is_good_decides wire.field_is_good_allows (
    promise wire_goes_on_kinds.ps wire_goes_on_kinds.r wire_goes_on_reads.Pre wire_goes_on_reads.Learnt wire.goes_on_decides wire.goes_on_allows (
    promise wire_value_kinds.ps wire_value_kinds.r wire_value_reads.Pre wire_value_reads.Learnt wire.value_decides wire.value_allows (
    promise wire_take_kinds.ps wire_take_kinds.r wire_take_reads.Pre wire_take_reads.Learnt wire.take_decides wire.take_allows (
    promise wire_message_of_kinds.ps wire_message_of_kinds.r wire_message_of_reads.Pre wire_message_of_reads.Learnt wire.message_of_decides wire.message_of_allows (
    promise wire_give_kinds.ps wire_give_kinds.r wire_give_reads.Pre wire_give_reads.Learnt wire.give_decides wire.give_allows (
    promise wire_gather_fits_kinds.ps wire_gather_fits_kinds.r wire_gather_fits_reads.Pre wire_gather_fits_reads.Learnt wire.gather_fits_decides wire.gather_fits_allows (
    promise wire_reply_fits_kinds.ps wire_reply_fits_kinds.r wire_reply_fits_reads.Pre wire_reply_fits_reads.Learnt wire.reply_fits_decides wire.reply_fits_allows replies_decided)))))))

pub reading_decided : Promises
reading_decided =
    promise reading_three_kinds.ps reading_three_kinds.r reading_three_reads.Pre reading_three_reads.Learnt reading.three_decides reading.three_allows (
    promise reading_block_kinds.ps reading_block_kinds.r reading_block_reads.Pre reading_block_reads.Learnt reading.block_decides reading.block_allows (
    promise reading_phase_kinds.ps reading_phase_kinds.r reading_phase_reads.Pre reading_phase_reads.Learnt reading.phase_decides reading.phase_allows (
    promise reading_console_kinds.ps reading_console_kinds.r reading_console_reads.Pre reading_console_reads.Learnt reading.console_decides reading.console_allows (
    promise reading_printer_kinds.ps reading_printer_kinds.r reading_printer_reads.Pre reading_printer_reads.Learnt reading.printer_decides reading.printer_allows (
    promise reading_cassette_kinds.ps reading_cassette_kinds.r reading_cassette_reads.Pre reading_cassette_reads.Learnt reading.cassette_decides reading.cassette_allows (
    promise reading_gather_kinds.ps reading_gather_kinds.r reading_gather_reads.Pre reading_gather_reads.Learnt reading.gather_decides reading.gather_allows (
    promise reading_header_kinds.ps reading_header_kinds.r reading_header_reads.Pre reading_header_reads.Learnt reading.header_decides reading.header_allows (
    promise reading_run_kinds.ps reading_run_kinds.r reading_run_reads.Pre reading_run_reads.Learnt reading.run_decides reading.run_allows (
    promise reading_reply_kinds.ps reading_reply_kinds.r reading_reply_reads.Pre reading_reply_reads.Learnt reading.reply_decides reading.reply_allows wire_decided)))))))))

pub writing_decided : Promises
writing_decided =
    promise writing_block_kinds.ps writing_block_kinds.r writing_block_reads.Pre writing_block_reads.Learnt writing.block_decides writing.block_allows (
    promise writing_gather_kinds.ps writing_gather_kinds.r writing_gather_reads.Pre writing_gather_reads.Learnt writing.gather_decides writing.gather_allows (
    promise writing_run_kinds.ps writing_run_kinds.r writing_run_reads.Pre writing_run_reads.Learnt writing.run_decides writing.run_allows (
    promise writing_phase_kinds.ps writing_phase_kinds.r writing_phase_reads.Pre writing_phase_reads.Learnt writing.phase_decides writing.phase_allows (
    promise writing_port_kinds.ps writing_port_kinds.r writing_port_reads.Pre writing_port_reads.Learnt writing.port_decides writing.port_allows (
    promise writing_console_kinds.ps writing_console_kinds.r writing_console_reads.Pre writing_console_reads.Learnt writing.console_decides writing.console_allows (
    promise writing_printer_kinds.ps writing_printer_kinds.r writing_printer_reads.Pre writing_printer_reads.Learnt writing.printer_decides writing.printer_allows (
    promise writing_cassette_kinds.ps writing_cassette_kinds.r writing_cassette_reads.Pre writing_cassette_reads.Learnt writing.cassette_decides writing.cassette_allows reading_decided)))))))

pub ports_decided : Promises
ports_decided =
    promise ports_phase_of_kinds.ps ports_phase_of_kinds.r ports_phase_of_reads.Pre ports_phase_of_reads.Learnt ports.phase_of_decides ports.phase_of_allows (
    promise ports_set_phase_kinds.ps ports_set_phase_kinds.r ports_set_phase_reads.Pre ports_set_phase_reads.Learnt ports.set_phase_decides ports.set_phase_allows (
    promise ports_set_gather_kinds.ps ports_set_gather_kinds.r ports_set_gather_reads.Pre ports_set_gather_reads.Learnt ports.set_gather_decides ports.set_gather_allows (
    promise ports_set_run_kinds.ps ports_set_run_kinds.r ports_set_run_reads.Pre ports_set_run_reads.Learnt ports.set_run_decides ports.set_run_allows (
    promise ports_block_of_kinds.ps ports_block_of_kinds.r ports_block_of_reads.Pre ports_block_of_reads.Learnt ports.block_of_decides ports.block_of_allows (
    promise ports_set_block_kinds.ps ports_set_block_kinds.r ports_set_block_reads.Pre ports_set_block_reads.Learnt ports.set_block_decides ports.set_block_allows (
    promise ports_set_port_kinds.ps ports_set_port_kinds.r ports_set_port_reads.Pre ports_set_port_reads.Learnt ports.set_port_decides ports.set_port_allows writing_decided))))))

pub transfer_decided : Promises
transfer_decided =
    promise transfer_after_get_kinds.ps transfer_after_get_kinds.r transfer_after_get_reads.Pre transfer_after_get_reads.Learnt transfer.after_get_decides transfer.after_get_allows (
    promise transfer_byte_to_send_kinds.ps transfer_byte_to_send_kinds.r transfer_byte_to_send_reads.Pre transfer_byte_to_send_reads.Learnt transfer.byte_to_send_decides transfer.byte_to_send_allows (
    promise transfer_after_put_kinds.ps transfer_after_put_kinds.r transfer_after_put_reads.Pre transfer_after_put_reads.Learnt transfer.after_put_decides transfer.after_put_allows (
    promise transfer_land_kinds.ps transfer_land_kinds.r transfer_land_reads.Pre transfer_land_reads.Learnt transfer.land_decides transfer.land_allows ports_decided)))

pub recorder_decided : Promises
recorder_decided =
    promise recorder_open_kinds.ps recorder_open_kinds.r recorder_open_reads.Pre recorder_open_reads.Learnt recorder.open_decides recorder.open_allows (
    promise recorder_close_kinds.ps recorder_close_kinds.r recorder_close_reads.Pre recorder_close_reads.Learnt recorder.close_decides recorder.close_allows (
    promise recorder_read_kinds.ps recorder_read_kinds.r recorder_read_reads.Pre recorder_read_reads.Learnt recorder.read_decides recorder.read_allows (
    promise recorder_write_kinds.ps recorder_write_kinds.r recorder_write_reads.Pre recorder_write_reads.Learnt recorder.write_decides recorder.write_allows (
    promise recorder_fits_kinds.ps recorder_fits_kinds.r recorder_fits_reads.Pre recorder_fits_reads.Learnt recorder.fits_decides recorder.fits_allows transfer_decided))))

pub drives_decided : Promises
drives_decided =
    promise drives_open_kinds.ps drives_open_kinds.r drives_open_reads.Pre drives_open_reads.Learnt drives.open_decides drives.open_allows (
    promise drives_read_kinds.ps drives_read_kinds.r drives_read_reads.Pre drives_read_reads.Learnt drives.read_decides drives.read_allows (
    promise drives_status_kinds.ps drives_status_kinds.r drives_status_reads.Pre drives_status_reads.Learnt drives.status_decides drives.status_allows recorder_decided))

pub devices_decided : Promises
devices_decided =
    promise devices_owner_of_kinds.ps devices_owner_of_kinds.r devices_owner_of_reads.Pre devices_owner_of_reads.Learnt devices.owner_of_decides devices.owner_of_allows (
    promise devices_group_of_kinds.ps devices_group_of_kinds.r devices_group_of_reads.Pre devices_group_of_reads.Learnt devices.group_of_decides devices.group_of_allows (
    promise devices_held_by_kinds.ps devices_held_by_kinds.r devices_held_by_reads.Pre devices_held_by_reads.Learnt devices.held_by_decides devices.held_by_allows (
    promise devices_clashes_kinds.ps devices_clashes_kinds.r devices_clashes_reads.Pre devices_clashes_reads.Learnt devices.clashes_decides devices.clashes_allows (
    promise devices_open_kinds.ps devices_open_kinds.r devices_open_reads.Pre devices_open_reads.Learnt devices.open_decides devices.open_allows (
    promise devices_close_kinds.ps devices_close_kinds.r devices_close_reads.Pre devices_close_reads.Learnt devices.close_decides devices.close_allows (
    promise devices_prepare_kinds.ps devices_prepare_kinds.r devices_prepare_reads.Pre devices_prepare_reads.Learnt devices.prepare_decides devices.prepare_allows (
    promise devices_read_kinds.ps devices_read_kinds.r devices_read_reads.Pre devices_read_reads.Learnt devices.read_decides devices.read_allows (
    promise devices_write_kinds.ps devices_write_kinds.r devices_write_reads.Pre devices_write_reads.Learnt devices.write_decides devices.write_allows (
    promise devices_status_kinds.ps devices_status_kinds.r devices_status_reads.Pre devices_status_reads.Learnt devices.status_decides devices.status_allows (
    promise devices_special_kinds.ps devices_special_kinds.r devices_special_reads.Pre devices_special_reads.Learnt devices.special_decides devices.special_allows (
    promise devices_fresh_kinds.ps devices_fresh_kinds.r devices_fresh_reads.Pre devices_fresh_reads.Learnt devices.fresh_decides devices.fresh_allows (
    promise devices_console_of_kinds.ps devices_console_of_kinds.r devices_console_of_reads.Pre devices_console_of_reads.Learnt devices.console_of_decides devices.console_of_allows (
    promise devices_set_console_kinds.ps devices_set_console_kinds.r devices_set_console_reads.Pre devices_set_console_reads.Learnt devices.set_console_decides devices.set_console_allows (
    promise devices_printer_of_kinds.ps devices_printer_of_kinds.r devices_printer_of_reads.Pre devices_printer_of_reads.Learnt devices.printer_of_decides devices.printer_of_allows (
    promise devices_set_printer_kinds.ps devices_set_printer_kinds.r devices_set_printer_reads.Pre devices_set_printer_reads.Learnt devices.set_printer_decides devices.set_printer_allows drives_decided)))))))))))))))

pub judge_decided : Promises
judge_decided =
    promise judge_undamaged_kinds.ps judge_undamaged_kinds.r judge_undamaged_reads.Pre judge_undamaged_reads.Learnt judge.undamaged_decides judge.undamaged_allows devices_decided

pub plan_decided : Promises
plan_decided =
    promise plan_planned_kinds.ps plan_planned_kinds.r plan_planned_reads.Pre plan_planned_reads.Learnt plan.planned_decides plan.planned_allows (
    promise plan_open_plan_kinds.ps plan_open_plan_kinds.r plan_open_plan_reads.Pre plan_open_plan_reads.Learnt plan.open_plan_decides plan.open_plan_allows (
    promise plan_transfer_plan_kinds.ps plan_transfer_plan_kinds.r plan_transfer_plan_reads.Pre plan_transfer_plan_reads.Learnt plan.transfer_plan_decides plan.transfer_plan_allows (
    promise plan_group_needed_kinds.ps plan_group_needed_kinds.r plan_group_needed_reads.Pre plan_group_needed_reads.Learnt plan.group_needed_decides plan.group_needed_allows judge_decided)))

pub checks_decided : Promises
checks_decided =
    promise checks_iocb_of_kinds.ps checks_iocb_of_kinds.r checks_iocb_of_reads.Pre checks_iocb_of_reads.Learnt checks.iocb_of_decides checks.iocb_of_allows (
    promise checks_plan_in_kinds.ps checks_plan_in_kinds.r checks_plan_in_reads.Pre checks_plan_in_reads.Learnt checks.plan_in_decides checks.plan_in_allows plan_decided)

pub moves_decided : Promises
moves_decided =
    promise moves_advance_kinds.ps moves_advance_kinds.r moves_advance_reads.Pre moves_advance_reads.Learnt moves.advance_decides moves.advance_allows checks_decided

pub cio_decided : Promises
cio_decided =
    promise cio_load_kinds.ps cio_load_kinds.r cio_load_reads.Pre cio_load_reads.Learnt cio.load_decides cio.load_allows (
    promise cio_run_errand_kinds.ps cio_run_errand_kinds.r cio_run_errand_reads.Pre cio_run_errand_reads.Learnt cio.run_errand_decides cio.run_errand_allows (
    promise cio_start_kinds.ps cio_start_kinds.r cio_start_reads.Pre cio_start_reads.Learnt cio.start_decides cio.start_allows moves_decided))

pub running_decided : Promises
running_decided =
    promise running_land_at_kinds.ps running_land_at_kinds.r running_land_at_reads.Pre running_land_at_reads.Learnt running.land_at_decides running.land_at_allows (
    promise running_advance_at_kinds.ps running_advance_at_kinds.r running_advance_at_reads.Pre running_advance_at_reads.Learnt running.advance_at_decides running.advance_at_allows cio_decided)

pub ticks_decided : Promises
ticks_decided =
    promise ticks_tick_at_kinds.ps ticks_tick_at_kinds.r ticks_tick_at_reads.Pre ticks_tick_at_reads.Learnt ticks.tick_at_decides ticks.tick_at_allows running_decided

pub stick_decided : Promises
stick_decided =
    promise stick_take_at_kinds.ps stick_take_at_kinds.r stick_take_at_reads.Pre stick_take_at_reads.Learnt stick.take_at_decides stick.take_at_allows (
    promise stick_give_at_kinds.ps stick_give_at_kinds.r stick_give_at_reads.Pre stick_give_at_reads.Learnt stick.give_at_decides stick.give_at_allows (
    promise stick_press_at_kinds.ps stick_press_at_kinds.r stick_press_at_reads.Pre stick_press_at_reads.Learnt stick.press_at_decides stick.press_at_allows (
    promise stick_fresh_all_kinds.ps stick_fresh_all_kinds.r stick_fresh_all_reads.Pre stick_fresh_all_reads.Learnt stick.fresh_all_decides stick.fresh_all_allows ticks_decided)))

pub firmware_decided : Promises
firmware_decided =
    promise firmware_translate_kinds.ps firmware_translate_kinds.r firmware_translate_reads.Pre firmware_translate_reads.Learnt firmware.translate_decides firmware.translate_allows (
    promise firmware_doctor_kinds.ps firmware_doctor_kinds.r firmware_doctor_reads.Pre firmware_doctor_reads.Learnt firmware.doctor_decides firmware.doctor_allows (
    promise firmware_fresh_kinds.ps firmware_fresh_kinds.r firmware_fresh_reads.Pre firmware_fresh_reads.Learnt firmware.fresh_decides firmware.fresh_allows (
    promise firmware_take_kinds.ps firmware_take_kinds.r firmware_take_reads.Pre firmware_take_reads.Learnt firmware.take_decides firmware.take_allows (
    promise firmware_tick_kinds.ps firmware_tick_kinds.r firmware_tick_reads.Pre firmware_tick_reads.Learnt firmware.tick_decides firmware.tick_allows (
    promise firmware_give_kinds.ps firmware_give_kinds.r firmware_give_reads.Pre firmware_give_reads.Learnt firmware.give_decides firmware.give_allows (
    promise firmware_press_kinds.ps firmware_press_kinds.r firmware_press_reads.Pre firmware_press_reads.Learnt firmware.press_decides firmware.press_allows stick_decided))))))

-- all of them
pub all_decided : Promises
all_decided = firmware_decided
